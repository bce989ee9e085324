-- Texts without a fragment.
use Rattle.std.proofs.Common.{◌≡◌, ◌+◌, Bool, List, [], length, arith}
use Rattle.std.specs.List.{after_first, position_or_len}
use Rattle.std.proofs.lemmas.List.{drop_all}

-- if a mark does not occur, nothing follows it
pub none_after : {A : Type 0} (p : A → Bool) (xs : List A) → position_or_len p xs ≡ length xs → after_first p xs ≡ []
none_after p xs h = drop_all (position_or_len p xs + 1) xs (omega arith)
