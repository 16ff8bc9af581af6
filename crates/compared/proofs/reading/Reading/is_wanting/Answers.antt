-- `compared::reading::Reading::is_wanting` meets its contract: an input that has ended brings no more bytes.
-- Assumes nothing.
use Rattle.compared.proofs.SideTexts.{wanting_at}
use Rattle.compared.proofs.reading.Reading.is_wanting.Goals as goal

pub returns-then-not-self : goal.returns-then-not-self
returns-then-not-self c = rw c.if-not-self.true (wanting_at c.args.self.reader.listing.now c.args.self.reader.at)
