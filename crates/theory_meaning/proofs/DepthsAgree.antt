-- If no question returns, every depth from the number of reached targets times the number of places
-- on yields the same meaning.
use Rattle.std.proofs.Common.{◌≡◌, ℕ, List, [], ap, ◌≤◌}
use Rattle.std.specs.Prelude.{Decides}
use Rattle.serde_json.specs.Data.{Data}
use Rattle.theory_definitions.specs.Instance.{Place, Text}
use Rattle.theory_definitions.specs.Reports.{accepted}
use Rattle.theory_definitions.specs.Matching.{Assumptions, Completion}
use Rattle.theory_definitions.specs.Parts.{Parts}
use Rattle.theory_definitions.specs.Plan.{Edge, Key}
use Rattle.theory_definitions.specs.Meaning.{outcome_of, unfold_, unfolded}
use Rattle.theory_definitions.specs.Units.{Valued, no_valued, valued_of}
use Rattle.theory_meaning.specs.Returns.{Return}
use Rattle.theory_definitions.specs.Runs.{no_run, run, run_node}
use Rattle.theory_definitions.specs.Cover.{mode_of}
use Rattle.theory_definitions.specs.Laws.{EachKeeps}
use Rattle.theory_meaning.specs.Reach.{IsReach, deep_enough}
use Rattle.theory_meaning.specs.Headline.{at_root}
use Rattle.theory_meaning.specs.Depths.{DepthsAgree, SameDepths}
use Rattle.theory_meaning.proofs.AtPlaces.{at_places}
use Rattle.theory_meaning.proofs.Counted.{enough_agree}
use Rattle.theory_meaning.proofs.Local.{outcome_local}
use Rattle.theory_meaning.proofs.PlainRuns.{run_local, valued_local}
use Rattle.theory_meaning.proofs.Questions.{Asks}
use Rattle.theory_meaning.proofs.Reaching.{at_targets}
use Rattle.theory_meaning.proofs.Reading.{Reads, reads_of}
use Rattle.theory_meaning.proofs.SameRun.{one_place, one_target, same_through}

module _ {S K R : Type 0} (w : Parts S K R) (laws : EachKeeps w.keywords) (states : (a b : S) → Decides (w.resolver.same_state a b) (a ≡ b))
    (instance : Data) (root : Key S) (none : ¬ (Return w instance (at_root w root instance))) (keys : List (Key S)) (reach : IsReach w root keys) where
  reads : Reads w.keywords
  reads = reads_of w.keywords laws

  agree : {X : Type 0} (last : X) (node : Key S → Text → Place → (Edge S → Place → X) → X)
      → ((k : Key S) (path : Text) (p : Place) (f g : Edge S → Place → X) → ((edge : Edge S) (q : Place) → Asks w instance k p edge q → f edge q ≡ g edge q) → node k path p f ≡ node k path p g)
      → (m n : ℕ) → deep_enough w keys instance ≤ m → deep_enough w keys instance ≤ n → unfolded w instance last node m root [] [] ≡ unfolded w instance last node n root [] []
  agree last node local = enough_agree w instance last node local (at_root w root instance) none keys (at_targets w instance root (same_through w states) keys reach) (at_places w instance reads root) (one_target w states) one_place

  pub same_depths : (m n : ℕ) → deep_enough w keys instance ≤ m → deep_enough w keys instance ≤ n → SameDepths w instance root m n
  same_depths m n a b =
      let says : (c : Completion) → unfold_ w instance c m root [] [] ≡ unfold_ w instance c n root [] [] = λ c. agree accepted (outcome_of w instance c) (outcome_local w instance c reads) m n a b in
      let runs : (as' : Assumptions) → run w instance as' m root [] [] ≡ run w instance as' n root [] [] = λ as'. agree no_run (run_node w instance as') (λ k path p f g h. run_local w instance reads k path p as' f g h) m n a b in
      record {
        says = says;
        units = λ c. ap (λ (v : Valued). v.units) (agree no_valued (valued_of w instance c) (λ k path p f g h. valued_local w instance reads k path p c f g h) m n a b);
        runs = runs;
        means = λ j. record { says = λ c. says c j; meets = λ call as'. (runs as' j).met (mode_of call as'); is_match = w.matcher.is_match };
      }

pub depths_agree : {S K R : Type 0} (w : Parts S K R) → DepthsAgree w
depths_agree w laws states instance root none keys reach m n a b = same_depths w laws states instance root none keys reach m n a b
