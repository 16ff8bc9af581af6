-- What the Rust printed: the listing rows. Made from rows.txt by compare/table; not to be edited by hand.
-- Assumes nothing.
use Rattle.std.specs.Prelude.{List, [], ◌∷◌}
use Rattle.printed.specs.Rows.{Row, prints, answers, both, crate, straight, unknown, body, listing, repeated}

unfoldable pub listing_rows : List Row
listing_rows =
    -- Listings: empty, of another version, of a version byte alone, cut in a length and in a body
    listing both "" (prints "; cut\n") ∷
    listing both "00" (prints "; version\n") ∷
    listing both "03" (prints "; version\n") ∷
    listing both "03 00 00" (prints "; version\n") ∷
    listing both "FF 01" (prints "; version\n") ∷
    listing both "01" (prints "") ∷
    listing both "01 00" (prints "; cut\n") ∷
    listing both "01 01" (prints "; cut\n") ∷
    listing both "01 00 01" (prints "; cut\n") ∷
    listing both "01 00 02 00" (prints "; cut\n") ∷
    listing both "01 01 00 07" (prints "; cut\n") ∷
    -- Listings: document 01's whole one, and the same cut
    listing both "01 0013 0000 00 05 00 0000007B 00000000 01 0500000000" (prints "jmp near ptr $+80h\n") ∷
    listing both "01 00 13 00 00 00 05 00 00 00 00 7B 00 00 00 00 01 05 00 00 00" (prints "; cut\n") ∷
    -- Listings: refused records among lines, and a cut after them
    listing both "01 0000" (prints "; refused 2\n") ∷
    listing crate "01 0013 0021 00 04 00 FFFFFFFF 00000000 01 0300000000 0000 0013 0000 00 02 00 0000007E 00000000 01 0300000000 000E 0000 00 00 00 00000000 00000000 00" (prints "push 0FFFFFFFFh\n; refused 2\njmp $-80h\n; refused 3\n") ∷
    listing straight "01 0013 0021 00 04 00 FFFFFFFF 00000000 01 0300000000 0000 0013 0000 00 02 00 0000007E 00000000 01 0300000000 000E 0000 00 00 00 00000000 00000000 00" (prints "push 0FFFFFFFFh\n; refused 2\njmp short $+80h\n; refused 3\n") ∷
    listing both "01 000E 0040 00 04 00 00000000 00000000 00 0013 0021 00 04 00 FFFFFFFF 00000000 01 0300000000 0013 0017 00 04 00 00000000 00000000 01 0B00000000 00 05 01 01" (prints "; refused 4\npush 0FFFFFFFFh\n; refused 5\n; cut\n") ∷
    listing crate "01 0013 0000 00 02 00 0000007E 00000000 01 0300000000 0013 0000 00 05 00 0000007B 00000000 01 0500000000 0013 0000 00 02 00 0000007E 00000000 01 0300000000 00" (prints "jmp $-80h\njmp near ptr $+80h\njmp $-80h\n; cut\n") ∷
    listing straight "01 0013 0000 00 02 00 0000007E 00000000 01 0300000000 0013 0000 00 05 00 0000007B 00000000 01 0500000000 0013 0000 00 02 00 0000007E 00000000 01 0300000000 00" (prints "jmp short $+80h\njmp near ptr $+80h\njmp short $+80h\n; cut\n") ∷
    -- Listings: numbers that are no mode
    listing unknown "" (answers 1) ∷
    listing unknown "01" (answers 1) ∷
    listing unknown "03" (answers 1) ∷
    -- Listings: extended records among others, and `; refused 7`
    listing both "01 0020 00AF 40 04 08 00000000 00000000 03 0100400000 0100410000 110000000049 01 02 0013 0021 00 04 00 FFFFFFFF 00000000 01 0300000000 001F 009A 00 04 00 00000000 00000000 03 0F00004104 0200490000 0100420000 00 00" (prints "vaddpd zmm0, zmm1, qword ptr [eax]{k1}{1to8} {rd-sae}\npush 0FFFFFFFFh\nvpscatterdd dword ptr [eax + zmm1 * 4]{k1}, zmm2\n") ∷
    listing both "01 001A 00AF 40 04 02 00000000 00000000 02 0100400000 0B00000000 00 00" (prints "; refused 7\n") ∷
    listing both "01 001D 009A 00 04 00 00000000 00000000 03 0F00004104 0200490000 0100420000 001A 00AF 40 04 02 00000000 00000000 02 0100400000 0B00000000 00 00 0013 0021 00 04 00 FFFFFFFF 00000000 01 0300000000 0010 009D 00 04 00 00000000 00000000 00 00 00 0020 00AF 40 04 08 00000000 00000000 03 0100400000 0100410000 110000000049 01 02 00 26 00" (prints "; refused 2\n; refused 7\npush 0FFFFFFFFh\n; refused 4\nvaddpd zmm0, zmm1, qword ptr [eax]{k1}{1to8} {rd-sae}\n; cut\n") ∷
    []
