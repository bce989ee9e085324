-- `not` accepts an instance if its schema refuses it (Core 2020-12, 10.2.1.4).
use Rattle.std.specs.Prelude.{Bool, false, ◌≡◌}

abbrev pub Refuses : Bool → Type 0
Refuses accepts = accepts ≡ false
