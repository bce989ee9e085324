-- A fact that holds from some depth on holds of every sense that the nodes mean.
use Rattle.std.proofs.Common.{ℕ, ◌+◌, length, suc, [], subst, arith}
use Rattle.serde_json.specs.Data.{Data}
use Rattle.theory_definitions.specs.Matching.{Matcher}
use Rattle.theory_definitions.specs.Keywords.{Keywords}
use Rattle.theory_definitions.specs.Parts.{Parts}
use Rattle.theory_definitions.specs.Cover.{Sense}
use Rattle.theory_definitions.specs.Guarded.{Nodes}
use Rattle.theory_definitions.specs.Meaning.{subject}
use Rattle.theory_meaning.specs.Numbered.{Numbers, left}
use Rattle.theory_meaning.specs.Means.{OfEverySense, FromSomeDepth, NumbersMean, NumbersHaveUnits}
use Rattle.theory_meaning.proofs.SameRun.{plainly_agree}

pub of_every_sense : {K R : Type 0} (keywords : Keywords K R) (matcher : Matcher) (nodes : Nodes K) (root : ℕ) (instance : Data) (fact : Sense → Type 0)
    → FromSomeDepth keywords matcher nodes root instance fact → OfEverySense keywords matcher nodes root instance fact
of_every_sense keywords matcher nodes root instance fact f = λ v m.
    subst fact (m.1 (f.0 + m.0) (omega arith)) (f.1 (f.0 + m.0) (omega arith))

pub numbers_mean : {S K R : Type 0} (w : Parts S K R) (keys : Numbers S) (nodes : Nodes K) → NumbersMean w keys nodes
numbers_mean w keys nodes = λ keeps inside below decides numbered ranked instance i root is_root no_return reached reach n deep.
    (suc (left nodes (length keys) i (subject w instance []) []), λ m more. (plainly_agree w keys nodes keeps inside below decides numbered ranked instance i root is_root no_return reached reach m n more deep).sense)

pub numbers_have_units : {S K R : Type 0} (w : Parts S K R) (keys : Numbers S) (nodes : Nodes K) → NumbersHaveUnits w keys nodes
numbers_have_units w keys nodes = λ keeps inside below decides numbered ranked instance i root is_root no_return reached reach n deep.
    (suc (left nodes (length keys) i (subject w instance []) []), λ m more. (plainly_agree w keys nodes keeps inside below decides numbered ranked instance i root is_root no_return reached reach m n more deep).units)
