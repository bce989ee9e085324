-- Verdicts that a run remembers: they stay right, reading one is the same as running again, and one
-- that was computed may be kept.
use Rattle.std.proofs.Common.{◌≡◌, ◌∙◌, ℕ, zero, suc, ◌+◌, ◌≤◌, ◌==◌, ◌&&◌, ◌||◌, Bool, true, false, List, [], ◌∷◌, ◌++◌, refl, sym, ap, subst, arith, rules, inl, inr, ⊎_elim, true≢false}
use Rattle.std.specs.Prelude.{◌⊎◌, All, Option, Some, None, if◌then◌else◌, option_and_then, option_map, unwrap_or}
use Rattle.std.specs.List.{list_all, list_any}
use Rattle.std.proofs.lemmas.Bool.{eqb-true}
use Rattle.std.proofs.lemmas.List.Elements.{All-nil}
use Rattle.serde_json.specs.Data.{Data, null}
use Rattle.theory_definitions.specs.Instance.{Place, Step, Subject, Text, a_value, after_step, same_place, same_step, subject_at, subject_from, to_item, to_member, to_name}
use Rattle.theory_definitions.specs.Matching.{Assumptions, Match, Matcher, finished, unfinished}
use Rattle.theory_definitions.specs.Keywords.{Keywords, for_verdict, truth}
use Rattle.theory_definitions.specs.Runs.{Met}
use Rattle.theory_definitions.specs.Guarded.{Nodes}
use Rattle.theory_meaning.specs.Numbered.{subject_in}
use Rattle.theory_definitions.specs.Unfinished.{Remembered}
use Rattle.theory_definitions.specs.Remembering.{EachAsksVerdicts}
use Rattle.theory_meaning.proofs.Falls.{from_below}
use Rattle.theory_meaning.proofs.SamePaths.{paths_keep_runs, paths_keep_verdicts}
use Rattle.schema_reports.specs.ReportViews.{BorrowsItsPlace}
use Rattle.schema_traits.specs.FaultViews.{errors_in}
use Rattle.schema_traits.specs.KeywordViews.{reply_of}
use Rattle.schema_run_context.specs.Matches.{MeetsEach, Settling, after_match, settling}
use Rattle.theory_runs.specs.NodeMeets.{NodeMeets}
use Rattle.schema_run_steps.specs.ReplyModes.{accepts}
use Rattle.schema_run_steps.specs.NodeRuns.{NodeReplies}
use Rattle.schema_run_context.specs.Progress.{Context, Pairs, Verdicts, busy_at}
use Rattle.theory_runs.specs.RightVerdicts.{AreRight, IsRightVerdict, LaysOut, Layout}
use Rattle.schema_run_context.specs.Verdicts.{MayKeep, Remembers, is_alone, is_container, is_pair, least_visits, read_verdict, verdict_of}
use Rattle.schema_traits.specs.declared.keyword.Reply as code
use Rattle.theory_runs.proofs.MeetsAgain.{known_by_path, known_stays, met_again, met_is_known}
use Rattle.schema_run_steps.proofs.NodeRuns.{stands_in}
use Rattle.schema_run_context.proofs.Pairs.{busy-pushed, place_equal, same_place-self}

-- ---- the subject at each place

none_below : (step : Step) (t : Subject) → after_step step (a_value null) ≡ Some t → ⊥
none_below (to_member k) t e = cc e
none_below (to_item n) t e = cc e
none_below (to_name k) t e = cc e

-- What a step leads to, from a subject or from nothing.
one_step : (o : Option Subject) (step : Step) (t : Subject) → after_step step (unwrap_or o (a_value null)) ≡ Some t → unwrap_or (option_and_then (after_step step) o) (a_value null) ≡ t
one_step (Some x) step t e = ap (λ o. unwrap_or o (a_value null)) e
one_step None step t e = absurd (none_below step t e)

-- A root value lays out its subjects.
pub root_lays_out : (root : Data) (p : Place) (s : Subject) → subject_at root p ≡ Some s → LaysOut (subject_in root) p s
root_lays_out root p s e = record {
  here = stands_in root p s e;
  below = λ q step t a. ap (λ o. unwrap_or o (a_value null)) (from_below q step (a_value root)) ∙ one_step (subject_at root q) step t a;
}

-- One step below.
pub laid_below : (layout : Layout) (p : Place) (s t : Subject) (step : Step) (lower : Place) → LaysOut layout p s → lower ≡ p ++ step ∷ [] → after_step step s ≡ Some t → LaysOut layout lower t
laid_below layout p s t step lower h d a = record { here = ap layout d ∙ h.below p step t (ap (after_step step) h.here ∙ a); below = h.below }

-- The steps from a place to one below it.
abbrev pub steps_from : Place → Place → Option Place
steps_from [] q = Some q
steps_from (s ∷ p) [] = None
steps_from (s ∷ p) (t ∷ q) = if same_step s t then steps_from p q else None

first_step : (s : Step) (p : Place) → same_place (s ∷ p) (s ∷ p) ≡ true → same_step s s ≡ true
first_step s p = go (same_step s s)
  where
    go : (b : Bool) → (b && same_place p p) ≡ true → b ≡ true
    go true e = refl
    go false e = e

steps_to_itself : (p : Place) → steps_from p p ≡ Some []
steps_to_itself [] = refl
steps_to_itself (s ∷ p) = ap (λ b. if b then steps_from p p else None) (first_step s p (same_place-self (s ∷ p))) ∙ steps_to_itself p

steps_further : (p q steps r : Place) → steps_from p q ≡ Some steps → steps_from p (q ++ r) ≡ Some (steps ++ r)
steps_further [] q steps r e = ap (option_map (λ z. z ++ r)) e
steps_further (s ∷ p) [] steps r e = absurd (cc e)
steps_further (s ∷ p) (t ∷ q) steps r e = go (same_step s t) (steps_further p q steps r) e
  where
    go : (b : Bool) → (steps_from p q ≡ Some steps → steps_from p (q ++ r) ≡ Some (steps ++ r))
        → ◌≡◌ {A = Option Place} (if b then steps_from p q else None) (Some steps) → ◌≡◌ {A = Option Place} (if b then steps_from p (q ++ r) else None) (Some (steps ++ r))
    go true further e = further e
    go false further e = absurd (cc e)

-- The subjects below a place with a given subject.
abbrev pub layout_from : Place → Subject → Layout
layout_from p s q = unwrap_or (option_and_then (λ steps. subject_from steps s) (steps_from p q)) (a_value null)

pub lays_out_from : (p : Place) (s : Subject) → LaysOut (layout_from p s) p s
lays_out_from p s = record {
  here = ap (λ o. unwrap_or (option_and_then (λ steps. subject_from steps s) o) (a_value null)) (steps_to_itself p);
  below = λ q step t. go q step t (steps_from p q) refl;
}
  where
    go : (q : Place) (step : Step) (t : Subject) (o : Option Place) → steps_from p q ≡ o → after_step step (unwrap_or (option_and_then (λ steps. subject_from steps s) o) (a_value null)) ≡ Some t
        → layout_from p s (q ++ step ∷ []) ≡ t
    go q step t None e a = absurd (none_below step t a)
    go q step t (Some steps) e a =
        ap (λ o. unwrap_or (option_and_then (λ steps. subject_from steps s) o) (a_value null)) (steps_further p q steps (step ∷ []) e)
        ∙ ap (λ o. unwrap_or o (a_value null)) (from_below steps step s) ∙ one_step (subject_from steps s) step t a

-- ---- a pair that is alone at a place

all_others : (n : ℕ) (xs : List ℕ) → list_all (λ j. j == n) xs ≡ true → list_any (λ j. j == n) xs ≡ false → xs ≡ []
all_others n [] h k = refl
all_others n (x ∷ xs) h k = go (x == n) h k
  where
    go : (b : Bool) → (b && list_all (λ j. j == n) xs) ≡ true → (b || list_any (λ j. j == n) xs) ≡ false → x ∷ xs ≡ []
    go true h k = absurd (true≢false k)
    go false h k = absurd (true≢false (sym h))

-- An entered pair is alone if and only if it would have been before.
pub alone_entered : (n : ℕ) (p : Place) (es : Pairs) → is_alone n p (es ++ (n, p) ∷ []) ≡ is_alone n p es
alone_entered n p es = ap (list_all (λ j. j == n)) (busy-pushed p n es) ∙ ap (λ b. b && list_all (λ j. j == n) (busy_at p es)) (same_number n)
  where
    same_number : (n : ℕ) → (n == n) ≡ true
    same_number n = search rules

-- If it was not in progress and no other pair is, none is in progress at the place.
pub alone_is_none : (n : ℕ) (p : Place) (es : Pairs) → is_alone n p es ≡ true → list_any (λ j. j == n) (busy_at p es) ≡ false → busy_at p es ≡ []
alone_is_none n p es h k = all_others n (busy_at p es) h k

-- ---- a verdict that is read

pub read_alone : (n : ℕ) (p : Place) (c : Context) (v : Bool) → read_verdict n p c ≡ Some v → (is_alone n p c.in_progress ≡ true) × (verdict_of n p c.verdicts ≡ Some v)
read_alone n p c v = go (is_alone n p c.in_progress)
  where
    go : (b : Bool) → ◌≡◌ {A = Option Bool} (if b then verdict_of n p c.verdicts else None) (Some v) → (b ≡ true) × (verdict_of n p c.verdicts ≡ Some v)
    go true e = (refl, e)
    go false e = absurd (cc e)

-- The same verdict is read after the pair is entered.
pub read_entered : (n : ℕ) (p : Place) (c c' : Context) → c'.in_progress ≡ c.in_progress ++ (n, p) ∷ [] → c'.verdicts ≡ c.verdicts → read_verdict n p c' ≡ read_verdict n p c
read_entered n p c c' e f =
    ap (λ b. if b then verdict_of n p c'.verdicts else None) (ap (is_alone n p) e ∙ alone_entered n p c.in_progress)
    ∙ ap (λ vs. if is_alone n p c.in_progress then verdict_of n p vs else None) f

-- ---- whether a verdict may be kept

within_or_not : (a b : ℕ) → (a ≤ b) ⊎ ¬ (a ≤ b)
within_or_not zero b = inl (omega arith)
within_or_not (suc a) zero = inr (λ h. omega (arith, h))
within_or_not (suc a) (suc b) = ⊎_elim (λ h. inl (omega (arith, h))) (λ h. inr (λ k. h (omega (arith, k)))) (within_or_not a b)

pub kept_or_not : (i : ℕ) (p : Place) (s : Subject) (mark : ℕ) (c : Context) → MayKeep i p s mark c ⊎ ¬ MayKeep i p s mark c
kept_or_not i p s mark c = go (is_container s) (is_alone i p c.in_progress) refl refl (within_or_not (mark + least_visits) c.visits)
  where
    go : (a b : Bool) → is_container s ≡ a → is_alone i p c.in_progress ≡ b → (mark + least_visits ≤ c.visits) ⊎ ¬ (mark + least_visits ≤ c.visits) → MayKeep i p s mark c ⊎ ¬ MayKeep i p s mark c
    go false b e f h = inr (λ k. absurd (true≢false (sym k.container ∙ e)))
    go true false e f h = inr (λ k. absurd (true≢false (sym k.alone ∙ f)))
    go true true e f h = ⊎_elim (λ l. inl (record { container = e; alone = f; enough = l })) (λ l. inr (λ k. l k.enough)) h

-- ---- verdicts that are right

module _ {K R : Type 0} (words : Bool → Keywords K R) (is_whole : K → Bool) (nodes : Nodes K) (count : ℕ) (matcher : Matcher) where
  pub none_right : (as' : Assumptions) (r : Remembered) (layout : Layout) (vs : Verdicts) → vs ≡ [] → AreRight words is_whole nodes count matcher as' r layout vs
  none_right as' r layout vs e i p v h = absurd (cc (sym (ap (verdict_of i p) e) ∙ h))

  -- They stay right, whatever other matches are met.
  pub right_met : (as' : Assumptions) (r r' : Remembered) (layout : Layout) (vs : Verdicts) (ms : List Met) → MeetsEach matcher r ms r'
      → AreRight words is_whole nodes count matcher as' r layout vs → AreRight words is_whole nodes count matcher as' r' layout vs
  right_met as' r r' layout vs ms e h i p v is =
      let k = h i p v is in
      record { said = k.said; known = λ texts root depth reads l path. known_stays matcher r r' _ ms (k.known texts root depth reads l path) e }

  pub right_after_match : (as' : Assumptions) (r : Remembered) (layout : Layout) (vs : Verdicts) (m : Met) (answer : Match) → matcher.is_match m.pair.pattern m.pair.subject ≡ answer
      → AreRight words is_whole nodes count matcher as' r layout vs → AreRight words is_whole nodes count matcher as' (after_match r m answer) layout vs
  right_after_match as' r layout vs m (finished b) e h = h
  right_after_match as' r layout vs m (unfinished reason) e h = right_met as' r _ layout vs (m ∷ []) (reason, e, refl) h

  -- ---- a verdict that is read

  module _ (as' : Assumptions) (r : Remembered) (i : ℕ) (p : Place) (s : Subject) (v : Bool) (h : IsRightVerdict words is_whole nodes count matcher as' r i p s v) (path : Text) where
    abbrev w : Settling
    w = settling matcher as'

    pub read_replies : (reply : code.Reply) → ((texts : Bool) → reply_of texts reply ≡ truth v) → errors_in reply ≡ []
        → NodeReplies words is_whole nodes count w for_verdict path p (i ∷ []) s i reply
    read_replies reply e none x reads l = record {
      same = e x.texts ∙ ap truth (sym (h.said x reads l path));
      borrows = subst (All (BorrowsItsPlace x.root)) (sym none) (All-nil (BorrowsItsPlace x.root));
    }

    pub read_meets : NodeMeets words is_whole nodes count w for_verdict path p (i ∷ []) s r r i
    read_meets texts root depth reads l = met_again matcher r _ (h.known texts root depth reads l path)

  -- ---- a verdict that was computed

  pub computed_right : ((texts : Bool) → EachAsksVerdicts (words texts)) → (as' : Assumptions) (r r' : Remembered) (i : ℕ) (p : Place) (s : Subject) (path : Text) (reply : code.Reply) (v : Bool)
      → ((texts : Bool) → accepts (reply_of texts reply) ≡ v)
      → NodeReplies words is_whole nodes count (settling matcher as') for_verdict path p (i ∷ []) s i reply
      → NodeMeets words is_whole nodes count (settling matcher as') for_verdict path p (i ∷ []) s r r' i
      → IsRightVerdict words is_whole nodes count matcher as' r' i p s v
  computed_right asks as' r r' i p s path reply v is says meets = record {
    said = λ x reads l path'.
        paths_keep_verdicts (words x.texts) x.matcher nodes (subject_in x.root) x.completion x.depth i path' path p (i ∷ [])
        ∙ sym (ap accepts (says x reads l).same) ∙ is x.texts;
    known = λ texts root depth reads l path'.
        let same = paths_keep_runs (words texts) (asks texts) matcher nodes (subject_in root) as' depth i path path' p (i ∷ []) in
        known_by_path matcher r' _ _ same.met (met_is_known matcher r r' _ (meets texts root depth reads l));
  }

  -- A verdict that is kept beside the others is right if they are.
  pub right_kept : (as' : Assumptions) (r : Remembered) (layout : Layout) (old new : Verdicts) (i : ℕ) (p : Place) (v : Bool) → Remembers i p v old new
      → IsRightVerdict words is_whole nodes count matcher as' r i p (layout p) v
      → AreRight words is_whole nodes count matcher as' r layout old → AreRight words is_whole nodes count matcher as' r layout new
  right_kept as' r layout old new i p v k h others j q v' is = go (is_pair i p (j, q)) refl
    where
      both : (a b : Bool) → (a && b) ≡ true → (a ≡ true) × (b ≡ true)
      both true b e = (refl, e)
      both false b e = absurd (true≢false (sym e))

      some_same : {A : Type 0} (a b : A) → ◌≡◌ {A = Option A} (Some a) (Some b) → a ≡ b
      some_same a b e = cc

      go : (b : Bool) → is_pair i p (j, q) ≡ b → IsRightVerdict words is_whole nodes count matcher as' r j q (layout q) v'
      go true e =
          let two = both (j == i) (same_place q p) e in
          let at_number : j ≡ i = eqb-true j i two.0 in
          let at_place : q ≡ p = place_equal q p two.1 in
          let found : verdict_of i p new ≡ Some v' = subst (λ z. verdict_of z p new ≡ Some v') at_number (subst (λ z. verdict_of j z new ≡ Some v') at_place is) in
          let same : v ≡ v' = some_same v v' (sym k.its ∙ found) in
          subst (λ z. IsRightVerdict words is_whole nodes count matcher as' r z q (layout q) v') (sym at_number)
          (subst (λ z. IsRightVerdict words is_whole nodes count matcher as' r i z (layout z) v') (sym at_place)
          (subst (IsRightVerdict words is_whole nodes count matcher as' r i p (layout p)) same h))
      go false e = others j q v' (sym (k.others j q e) ∙ is)
