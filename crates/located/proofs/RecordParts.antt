-- Laws of what is said of one record: its line is the listing's, put in two parts; and how long it is.
-- Assumes nothing.
use Rattle.std.proofs.Common.{◌≡◌, ℕ, ◌^◌, ◌<◌, ◌≤◌, Bool, true, false, cond, eqb, List, [], ◌++◌, length, sym, refl, append-nil, arith, length-append, ne_eqb}
use Rattle.text.specs.Choice.{when}
use Rattle.text.specs.Words.{bytes}
use Rattle.text.proofs.Choosing.{cond_by}
use Rattle.numerals.specs.Decimals.{decimal}
use Rattle.numerals.proofs.Tens.{decimal_most}
use Rattle.answers.specs.declared.Reason.{Reason}
use Rattle.answers.specs.Reasons.{number_of}
use Rattle.answers.proofs.Numbers.{number_some}
use Rattle.answers.specs.Refusals.{answer_of}
use Rattle.answers.specs.Lines.{newline, refused_text, refused_line}
use Rattle.answers.proofs.Lines.{refused_text_most}
use Rattle.lines.specs.Text.{longest_line}
use Rattle.records.specs.declared.Asked.{Asked}
use Rattle.records.specs.Records.{refusals, record_text}
use Rattle.records.specs.Lines.{record_line}
use Rattle.records.specs.Judged.{text_of}
use Rattle.records.proofs.Texts.{text_short}
use Rattle.located.specs.Parts.{head_line, shown_text, body_text, comment_text, record_part, longest_part}
use Rattle.located.specs.Code.{refusal_text}
use Rattle.located.proofs.BodyTexts.{body_most}

-- what is said of a refusal, by its number
pub refusal_none : {n : ℕ} → n ≡ 0 → refusal_text n ≡ []
unfolding refusal_text
refusal_none e = rw e

pub refusal_some : {n : ℕ} → (n ≡ 0 → ⊥) → refusal_text n ≡ refused_text n
unfolding refusal_text
refusal_some {n} some = rw (ne_eqb n 0 some)

pub refusal_because : (reason : Reason) → refusal_text (number_of reason) ≡ refused_text (number_of reason)
refusal_because reason = refusal_some (λ none. absurd (omega (arith, number_some reason, none)))

module _ (asked : Asked) (body : List ℕ) where
  -- the line is the record's text alone, or the refusal's
  pub shown_parts : shown_text asked body ≡ text_of true asked body ++ refusal_text (answer_of (refusals asked body))
  unfolding shown_text text_of refusal_text
  shown_parts = go (eqb (answer_of (refusals asked body)) 0)
    where
      go : (b : Bool) → cond b (record_text asked body) (refused_text (answer_of (refusals asked body))) ≡ when b (record_text asked body) ++ cond b [] (refused_text (answer_of (refusals asked body)))
      go true = sym (append-nil (record_text asked body))
      go false = refl

  -- it is the line of the listing
  pub shown_line : record_line asked body ≡ shown_text asked body ++ newline
  unfolding shown_text record_line refused_line
  shown_line = go (eqb (answer_of (refusals asked body)) 0)
    where
      go : (b : Bool) → cond b (record_text asked body ++ newline) (refused_text (answer_of (refusals asked body)) ++ newline) ≡ cond b (record_text asked body) (refused_text (answer_of (refusals asked body))) ++ newline
      go true = refl
      go false = refl

  pub shown_short : length (shown_text asked body) ≤ longest_line
  unfolding shown_text
  shown_short =
      cond_by (λ (t : List ℕ). length t ≤ longest_line) (eqb (answer_of (refusals asked body)) 0) (λ e. text_short asked body)
      (λ e. omega (arith, refused_text_most (answer_of (refusals asked body))))

-- a number of 64 bits has 20 digits at most
number_short : (n : ℕ) → n < 2 ^ 64 → length (decimal n) ≤ 20
number_short n h = decimal_most 19 n (omega (arith, h))

pub head_short : (number offset : ℕ) → number < 2 ^ 64 → offset < 2 ^ 64 → length (head_line number offset) ≤ 59
unfolding head_line
head_short number offset h l =
    omega (
      arith,
      length-append (bytes "; record ") (decimal number ++ (bytes " at byte " ++ (decimal offset ++ newline))),
      length-append (decimal number) (bytes " at byte " ++ (decimal offset ++ newline)),
      length-append (bytes " at byte ") (decimal offset ++ newline),
      length-append (decimal offset) newline,
      number_short number h,
      number_short offset l,
    )

pub part_short : (asked : Asked) (number offset : ℕ) (body : List ℕ) → number < 2 ^ 64 → offset < 2 ^ 64 → length body < 2 ^ 16 → length (record_part asked number offset body) ≤ longest_part
unfolding record_part comment_text
part_short asked number offset body h l few =
    omega (
      arith,
      length-append (head_line number offset) (shown_text asked body ++ (bytes " ;" ++ (body_text body ++ newline))),
      length-append (shown_text asked body) (bytes " ;" ++ (body_text body ++ newline)),
      length-append (bytes " ;") (body_text body ++ newline),
      length-append (body_text body) newline,
      head_short number offset h l,
      shown_short asked body,
      body_most body,
      few,
    )
