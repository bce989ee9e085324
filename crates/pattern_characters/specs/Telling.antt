-- What the code returns, against a definition: its value or its fault, unless memory ran out.
use Rattle.std.specs.Prelude.{◌≡◌, Result, Ok, Err}
use Rattle.pattern_characters.specs.declared.faults.Fault.{Fault}
use Rattle.pattern_characters.specs.declared.faults.Stop.{Stop}
use Rattle.pattern_characters.specs.declared.faults.Stop.TheVariants.{Refused, OutOfMemory}

abbrev pub Tells : {A B : Type 0} → (A → B) → Result A Stop → Result B Fault → Type 0
Tells f (Ok a) told = told ≡ Ok (f a)
Tells f (Err (Refused e)) told = told ≡ Err e
Tells f (Err OutOfMemory) told = Unit {0}
