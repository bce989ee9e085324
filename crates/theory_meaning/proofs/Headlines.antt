-- If no question returns, the answers of a validator about its nodes are answers about the plain
-- meaning.
use Rattle.std.proofs.Common.{◌≡◌, ℕ, suc, ◌+◌, [], length, subst, arith}
use Rattle.std.specs.Prelude.{Decides}
use Rattle.serde_json.specs.Data.{Data}
use Rattle.theory_definitions.specs.Parts.{Parts}
use Rattle.theory_definitions.specs.Plan.{Key}
use Rattle.theory_definitions.specs.Meaning.{subject}
use Rattle.theory_definitions.specs.Cover.{Sense, is_valid, evaluate}
use Rattle.theory_definitions.specs.Laws.{EachKeeps}
use Rattle.theory_definitions.specs.Guarded.{Nodes}
use Rattle.theory_meaning.specs.Headline.{Plainly, Guardedly, VerdictSays, FirstSays, ErrorsSay}
use Rattle.theory_definitions.specs.Reports.{report_of}
use Rattle.theory_meaning.specs.Numbered.{Numbers, IsNumber, AreNumbered, Ranked, left, ValuesInside, MakersAskBelow, GuardedIsPlain}
use Rattle.theory_meaning.proofs.SameRun.{numbers_mean_plain}

module _ {S K R : Type 0} (w : Parts S K R) (keys : Numbers S) (nodes : Nodes K) (laws : EachKeeps w.keywords) (values : ValuesInside w) (makers : MakersAskBelow w.table)
    (states : (a b : S) → Decides (w.resolver.same_state a b) (a ≡ b)) (numbered : AreNumbered w keys nodes) (ranked : Ranked nodes (length keys)) where
  pub plainly : (fact : Sense → Type 0) (instance : Data) (i : ℕ) (root : Key S) → IsNumber keys i root
      → Guardedly w.keywords w.matcher nodes (subject w instance) i fact → Plainly w root instance fact
  plainly fact instance i root number (deep, says) none reached reach n enough =
      let m : ℕ = deep + suc (left nodes (length keys) i (subject w instance []) []) in
      subst fact (numbers_mean_plain w keys nodes laws values makers states numbered ranked instance i root number none reached reach m n (omega arith) enough) (says m (omega arith))

pub guarded_is_plain : {S K R : Type 0} (w : Parts S K R) (keys : Numbers S) (nodes : Nodes K) → GuardedIsPlain w keys nodes
guarded_is_plain w keys nodes laws values makers states numbered ranked instance i root number limit = (
  (λ valid. plainly w keys nodes laws values makers states numbered ranked (λ v. VerdictSays v limit is_valid valid) instance i root number),
  (λ first. plainly w keys nodes laws values makers states numbered ranked (λ v. FirstSays v limit first) instance i root number),
  (λ errors. plainly w keys nodes laws values makers states numbered ranked (λ v. ErrorsSay v limit errors) instance i root number),
  (λ u. plainly w keys nodes laws values makers states numbered ranked (λ v. VerdictSays v limit evaluate (report_of u).valid) instance i root number),
)
