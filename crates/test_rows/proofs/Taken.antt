-- A property of each row so far.
use Rattle.std.proofs.Common.{All, List, Some, length, slice_index_or, subst, sym, take, ℕ, ◌+◌, ◌<◌, ◌≡◌, add-one, ap}
use Rattle.std.proofs.lemmas.List.Elements.{All-push}
use Rattle.std.proofs.Math.Seq.{take-suc}
use Rattle.serde_json.specs.Data.{Data, Items, array, boolean, null, number, object, string}
use Rattle.serde_json.specs.Find.{as_array}

pub one_more : {X : Type 0} (P : X → Type 0) (xs : List X) (i : ℕ) (d : X) → i < length xs → All P (take i xs) → P (slice_index_or xs i d) → All P (take (i + 1) xs)
one_more P xs i d inside so_far here = subst (λ n. All P (take n xs)) (sym (add-one i)) (subst (All P) (sym (take-suc xs i d inside)) (All-push P (take i xs) (slice_index_or xs i d) so_far here))

some_is : {X : Type 0} (a b : X) → Some a ≡ Some b → a ≡ b
some_is a b e = cc

-- a value with items is the array of them
pub is_list : (d : Data) (ds : Items) → Some ds ≡ as_array d → d ≡ array ds
is_list null ds e = cc
is_list (boolean b) ds e = cc
is_list (number n) ds e = cc
is_list (string s) ds e = cc
is_list (array es) ds e = ap array (sym (some_is ds es e))
is_list (object ms) ds e = cc
