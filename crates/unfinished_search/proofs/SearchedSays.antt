-- The result of the search over a sense's runs is what the sense's call says.
use Rattle.std.proofs.Common.{◌≡◌, ℕ, ◌+◌, ◌*◌, ◌≤◌, List, [], ◌∷◌, ◌++◌, Bool, true, false, ◌&&◌, sym, ◌∙◌, ap, subst, refl, arith, length, map}
use Rattle.std.specs.Prelude.{◌↔◌}
use Rattle.std.specs.List.{list_all}
use Rattle.theory_definitions.specs.Matching.{Assumptions}
use Rattle.theory_definitions.specs.Cover.{Call, Cover, Decides, Sense}
use Rattle.theory_meaning.specs.Headline.{VerdictSays}
use Rattle.theory_meaning.specs.Members.{Follows, all_accept, verdict_of}
use Rattle.theory_meaning.specs.Shared.{EachAccepts}
use Rattle.theory_definitions.specs.Unfinished.{Failure, Remembered}
use Rattle.theory_meaning.specs.Search.{Cut, Made, Tree, Whole, ends, lists_of, results_of}
use Rattle.unfinished_search.specs.Outcomes.{AreOutcomes, is_yes}
use Rattle.theory_meaning.specs.Searched.{IsRunOf}
use Rattle.unfinished_search.specs.declared.search.Outcomes.{Outcomes}
use Rattle.unfinished_search.specs.declared.search.Outcomes.TheVariants.{Assumed, Undecided}
use Rattle.theory_meaning.specs.Deciding.{undecided_past}
use Rattle.theory_meaning.proofs.Sentences.{verdict_says}
use Rattle.unfinished_search.proofs.SearchedSense.{call_cover, call_part}

pub all_map : {A B : Type 0} (p : B → Bool) (f : A → B) (xs : List A) → list_all p (map f xs) ≡ list_all (λ x. p (f x)) xs
all_map p f [] = refl
all_map p f (x ∷ xs) = ap (λ z. p (f x) && z) (all_map p f xs)

map_same : (xs : List Bool) → map (λ b. b) xs ≡ xs
map_same [] = refl
map_same (x ∷ xs) = ap (λ z. x ∷ z) (map_same xs)

false-true : false ≡ true → ⊥
false-true e = cc e

module _ (v : Sense) (call : Call) {S T V : Type 0} (Step : S → Remembered → Remembered → T → S → Type 0) (first : Remembered) (start : S) (view : T → V) (says : Assumptions → V) (is : IsRunOf v call Step first start view says) where
  -- the members, and that there are few enough of them
  pub record AreFew (limit : ℕ) (tree : Tree T) : Type 0 where
    pub cover : Cover v call [] (lists_of [] tree)
    pub same : map view (results_of tree) ≡ map says (lists_of [] tree)
    pub few : 2 * length (lists_of [] tree) ≤ limit + 1
    pub others : List Assumptions
    pub last : Assumptions
    pub split : lists_of [] tree ≡ others ++ last ∷ []

  pub are_few : {end : S} (limit : ℕ) (tree : Tree T) (f : Failure) → Made Step first start limit end tree f → Whole Step first start limit tree → AreFew limit tree
  are_few {end} limit tree f made whole =
      let c = call_cover v call Step first start view says is tree end made.grows whole.none_waits in
      let counted : length (lists_of [] tree) ≡ ends tree = subst (λ z. length (lists_of z tree) ≡ ends tree) is.assumes_none whole.counted in
      record {
        cover = c.cover;
        same = c.same;
        few = omega (arith, counted, whole.runs_are, made.few);
        others = whole.others;
        last = whole.last;
        split = subst (λ z. lists_of z tree ≡ whole.others ++ whole.last ∷ []) is.assumes_none whole.lists_are;
      }

  pub not_decided : {end : S} (limit : ℕ) (tree : Tree T) (f : Failure) → Made Step first start limit end tree f → Cut Step first start limit tree → ¬ (Decides v limit call)
  not_decided {end} limit tree f made cut = undecided_past v call limit (ends tree) (call_part v call Step first start view says is tree end made.grows) cut.many

module _ (v : Sense) (call : Call) (follows : Follows v) {S : Type 0} (Step : S → Remembered → Remembered → Bool → S → Type 0) (first : Remembered) (start end : S) (limit : ℕ) (is : IsRunOf v call Step first start (λ (b : Bool). b) (verdict_of v)) where
  yes_is : (tree : Tree Bool) (results : List Bool) → results ≡ results_of tree → map (λ b. b) (results_of tree) ≡ map (verdict_of v) (lists_of [] tree) → list_all (λ b. b) results ≡ all_accept v (lists_of [] tree)
  yes_is tree results e same =
      ap (list_all (λ b. b)) (e ∙ sym (map_same (results_of tree)) ∙ same) ∙ all_map (λ b. b) (verdict_of v) (lists_of [] tree)

  pub validity_says : (o : Outcomes Bool) → AreOutcomes Step first start limit end o → VerdictSays v limit call (is_yes o)
  validity_says (Assumed results failure) (tree, made, whole, same) =
      let m = are_few v call Step first start (λ b. b) (verdict_of v) is limit tree failure made whole in
      subst (VerdictSays v limit call) (sym (yes_is tree results.items same m.same)) (verdict_says v call follows (lists_of [] tree) m.cover limit m.few)
  validity_says (Undecided failure) (tree, made, cut) =
      (λ d. absurd (not_decided v call Step first start (λ b. b) (verdict_of v) is limit tree failure made cut d), λ n. refl)

  pub validity_exactly : (o : Outcomes Bool) → AreOutcomes Step first start limit end o → (is_yes o ≡ true) ↔ (Decides v limit call × EachAccepts v)
  validity_exactly (Assumed results failure) (tree, made, whole, same) =
      let m = are_few v call Step first start (λ b. b) (verdict_of v) is limit tree failure made whole in
      let decides : Decides v limit call = (lists_of [] tree, m.cover, m.few) in
      let says = (validity_says (Assumed results failure) (tree, made, whole, same)).0 decides in
      (λ e. (decides, says.0 e), λ h. says.1 h.1)
  validity_exactly (Undecided failure) (tree, made, cut) =
      (λ e. absurd (false-true e), λ h. absurd (not_decided v call Step first start (λ b. b) (verdict_of v) is limit tree failure made cut h.0))
