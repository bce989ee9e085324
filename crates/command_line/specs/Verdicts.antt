-- The words for verdicts, as they are printed.
use Rattle.std.specs.Prelude.{Bool, codes, false, true, ◌++◌, ◌∷◌}
use Rattle.theory_definitions.specs.Instance.{Text}
use Rattle.command_line.specs.declared.styles.Paint.{Paint}
use Rattle.command_line.specs.declared.styles.Paint.TheVariants.{Coloured, Plain}

-- the word for a verdict: if it is coloured, green for valid and red for invalid (ECMA-48, 8.3.117)
abbrev pub verdict_text : Paint → Bool → Text
verdict_text Plain true = codes "VALID"
verdict_text Plain false = codes "INVALID"
verdict_text Coloured true = 27 ∷ codes "[32mVALID" ++ 27 ∷ codes "[0m"
verdict_text Coloured false = 27 ∷ codes "[31mINVALID" ++ 27 ∷ codes "[0m"

-- the verdict in JSON, in the flag format (Core 2020-12, 12.4.1)
abbrev pub flag_text : Bool → Text
flag_text true = codes "{\"valid\":true}"
flag_text false = codes "{\"valid\":false}"
