-- What a call returns, compared with what is meant.
use Rattle.std.specs.Prelude.{IfOk, OnOk, Result, String, string_bytes, ◌++◌, ◌≡◌}
use Rattle.std.specs.declared.alloc.Global.{Global}
use Rattle.theory_definitions.specs.Instance.{Text}

-- if the result is `Ok`, it is this
abbrev pub Yields : {A E : Type 0} → Result A E → A → Type 0
Yields result meant = IfOk result (λ a. a ≡ meant)

-- if the result is `Ok`, it corresponds to this
abbrev pub Shows : {A B E : Type 0} → (A → B) → Result A E → B → Type 0
Shows seen result meant = IfOk result (λ a. seen a ≡ meant)

-- if the result is `Ok`, this text was appended to the old one
abbrev pub Adds : {A E : Type 0} → Result A E → String Global → String Global → Text → Type 0
Adds result old new more = OnOk result (string_bytes new ≡ string_bytes old ++ more)
