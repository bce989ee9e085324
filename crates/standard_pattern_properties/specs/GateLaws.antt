-- Keywords with gates keep the laws that every keyword must keep, whatever their gates are.
use Rattle.std.proofs.Common.{◌≡◌, ◌∙◌, ℕ, zero, suc, ◌+◌, ◌<◌, ◌≤◌, ◌⊎◌, ◌++◌, ◌∷◌, [], List, Bool, true, false, refl, sym, ap, inl, inr, add-one, arith, drop, length, map, subst}
use Rattle.std.specs.Prelude.{All, Contains, if◌then◌else◌}
use Rattle.std.proofs.lemmas.List.Elements.{All-append, All-cons, All-contains_itself, All-head, All-map, All-nil, All-tail, All-weaker, Contains-append_left, Contains-append_right, All-contains}
use Rattle.theory_definitions.specs.Instance.{Subject, Text}
use Rattle.theory_definitions.specs.Reports.{Unit_, report_of}
use Rattle.theory_definitions.specs.Matching.{Matching}
use Rattle.theory_definitions.specs.Keywords.{Answer, Answers, Fault, Keywords, Marked, Named, Question, Reply, Turn, ask, done, for_all, for_first, for_units, for_verdict, match_text, no_reply, own, passed}
use Rattle.theory_definitions.specs.Keywords as spec
use Rattle.theory_definitions.specs.Laws.{AsksRightly, IsPresent, IsRight, PassesUnchanged, answer_in, steps_below}
use Rattle.theory_definitions.specs.Remembering.{AlwaysAsksVerdict, AsksVerdict, EachAsksVerdicts}
use Rattle.theory_definitions.specs.Turns.{FunctionLaws, Standing, TurnLaws, reply_to}
use Rattle.theory_meaning.specs.Greatest.{IsMonotone}
use Rattle.theory_meaning.specs.UnitsLead.{EachHandsUnitsOn, IsHandedOn}
use Rattle.schema_traits.specs.KeywordViews.{fresh, mode_of}
use Rattle.schema_traits.specs.UnitQuestions.{AlwaysAsksForLess, AsksForLess, AsksNoUnits}
use Rattle.schema_traits.specs.declared.keyword.Mode.{Mode}
use Rattle.schema_traits.specs.declared.keyword.Mode.TheVariants as mode
use Rattle.keyword_authoring.specs.Members.{has_member}
use Rattle.keyword_authoring.specs.Places.{member_present}
use Rattle.keyword_authoring.specs.Tallies.{says_yes}
use Rattle.keyword_authoring.specs.WayGrows.{way_grows, way_says_monotone}
use Rattle.keyword_authoring.specs.WayReads.{way_agrees, way_faults_read, way_holds_reads, way_passes, way_stands_inside, way_units_read, way_units_valid}
use Rattle.keyword_authoring.specs.WayRuns.{IsEnd, reply_for, way_ends}
use Rattle.keyword_authoring.specs.WayUnits.{WantsNone, mode-kept}
use Rattle.keyword_authoring.specs.WayVerdicts.{WantsVerdict}
use Rattle.keyword_authoring.specs.Ways.{Way, goes_on, match_point, mode_from, questions, way_faults, way_holds, way_units}
use Rattle.standard_pattern_properties.specs.Gates.{Form, Gate, Gated, asked_of, at_member, gated, gated_at, gated_here, is_open, open_ones, opens, pair_with, passes, question_of, tells, way_by, way_of}
use Rattle.standard_pattern_properties.specs.GateEnds.{after_one, end_by, finished, leads_to, move_leads, open_at}
use Rattle.standard_pattern_properties.specs.GateMoves.{Move, answer_at, answer_by, answered, asks, asked_left, at_gates, at_pattern, enters, halts, matched_by, move_at, move_by, notes, run_after, run_begin, seeks, settles, tested, tested_at, tested_left, tested_weight, tests, total, turn_by, turns_left, weight}
use Rattle.standard_pattern_properties.specs.declared.gates.GateRun.{GateRun}
use Rattle.standard_pattern_properties.specs.declared.gates.GateStage.{GateStage}
use Rattle.standard_pattern_properties.specs.declared.gates.GateStage.TheVariants.{Asked, Begun, Ended, Tested}

-- ---- what holds of each move

-- the names that are left are the last of these
abbrev pub IsRest : List Text → List Text → Type 0
IsRest all names = (i : ℕ) × (names ≡ drop i all)

rest_later : (all : List Text) (k : Text) (ks : List Text) → IsRest all (k ∷ ks) → IsRest all ks
rest_later all k ks (i, e) = (i + 1, sym (after_one i all k ks (sym e)))

-- A move ends the run, or leaves fewer turns to take. If it does not end the run, it keeps to the
-- members that were left, and asks only what may be asked there.
abbrev pub IsFine : List Gate → Form → Subject → List Text → ℕ → Move → Type 0
IsFine gates form s all n (halts names) = Unit {0}
IsFine gates form s all n (tests names left j l p k) = (tested_left gates j l names < n) × IsRest all names
IsFine gates form s all n (asks names left j q) = (asked_left gates j names < n) × IsRest all names × Contains (asked_of form (gated gates s all)) q

none_after : (i : ℕ) (xs : List Text) → drop i xs ≡ [] → drop (i + 1) xs ≡ []
none_after i xs h = ap (λ n. drop n xs) (add-one i) ∙ gone i xs h
  where
    gone : (i : ℕ) (xs : List Text) → drop i xs ≡ [] → drop (suc i) xs ≡ []
    gone zero [] h = refl
    gone zero (x ∷ xs) h = cc
    gone (suc i) [] h = refl
    gone (suc i) (x ∷ xs) h = gone i xs h

found_question : {A : Type 0} (f : A → Question) (xs : List A) (i : ℕ) (x : A) (rest : List A) → drop i xs ≡ x ∷ rest → Contains (map f xs) (f x)
found_question f [] zero x rest h = cc
found_question f [] (suc i) x rest h = cc
found_question f (y ∷ xs) zero x rest h = let e : y ≡ x = cc in (zero, omega arith, ap f e)
found_question f (y ∷ xs) (suc i) x rest h = Contains-append_right (f y ∷ []) (map f xs) (f x) (found_question f xs i x rest h)

map-append : {A B : Type 0} (f : A → B) (xs ys : List A) → map f (xs ++ ys) ≡ map f xs ++ map f ys
map-append f [] ys = refl
map-append f (x ∷ xs) ys = ap (λ zs. f x ∷ zs) (map-append f xs ys)

map-map : (k : Text) (gs : List Gate) → map question_of (map (gated_at k) gs) ≡ map (λ g. at_member g.child k) gs
map-map k [] = refl
map-map k (g ∷ gs) = ap (λ qs. at_member g.child k ∷ qs) (map-map k gs)

module _ (gates : List Gate) (s : Subject) where
  -- the question of a gate at a member that is present
  asked_here : (all : List Text) (i : ℕ) (k : Text) (ks : List Text) → drop i all ≡ k ∷ ks → has_member k s ≡ true → (j : ℕ) (g : Gate) (gs : List Gate) → drop j gates ≡ g ∷ gs
      → Contains (map question_of (gated gates s all)) (at_member g.child k)
  asked_here [] zero k ks e here j g gs is = cc
  asked_here [] (suc i) k ks e here j g gs is = cc
  asked_here (l ∷ all) zero k ks e here j g gs is =
      let same : l ≡ k = cc in
      subst (λ qs. Contains qs (at_member g.child k)) (sym (map-append question_of (gated_here (has_member l s) gates l) (gated gates s all)))
      (Contains-append_left (map question_of (gated_here (has_member l s) gates l)) (map question_of (gated gates s all)) (at_member g.child k)
      (subst (λ x. Contains (map question_of (gated_here (has_member x s) gates x)) (at_member g.child k)) (sym same)
      (subst (λ b. Contains (map question_of (gated_here b gates k)) (at_member g.child k)) (sym here)
      (subst (λ qs. Contains qs (at_member g.child k)) (sym (map-map k gates)) (found_question (λ x. at_member x.child k) gates j g gs is)))))
  asked_here (l ∷ all) (suc i) k ks e here j g gs is =
      subst (λ qs. Contains qs (at_member g.child k)) (sym (map-append question_of (gated_here (has_member l s) gates l) (gated gates s all)))
      (Contains-append_right (map question_of (gated_here (has_member l s) gates l)) (map question_of (gated gates s all)) (at_member g.child k)
      (asked_here all i k ks e here j g gs is))

module _ (gates : List Gate) (s : Subject) (m : Mode) (all : List Text) where
  abbrev Fine : Form → ℕ → Move → Type 0
  Fine form n mv = IsFine gates form s all n mv

  fewer : (form : Form) (n o : ℕ) → n ≤ o → (mv : Move) → Fine form n mv → Fine form o mv
  fewer form n o le (halts names) h = tt
  fewer form n o le (tests names left j l p k) h = (let x : tested_left gates j l names < n = h.0 in omega arith, h.1)
  fewer form n o le (asks names left j q) h = (let x : asked_left gates j names < n = h.0 in omega arith, h.1, h.2)

  notes_fine : (m' : Mode) (form : Form) (n : ℕ) (k : Text) (left : List Text) (next : List Text → Move) → ((left' : List Text) → Fine form n (next left')) → Fine form n (notes gates form s m m' k left next)
  notes_fine mode.Verdict form n k left next on = tt
  notes_fine mode.First form n k left next on = on (left ++ k ∷ [])
  notes_fine mode.All form n k left next on = on (left ++ k ∷ [])
  notes_fine mode.Evaluate form n k left next on = on (left ++ k ∷ [])

  module _ (k : Text) (ks : List Text) (there : IsRest all (k ∷ ks)) (here : has_member k s ≡ true) where
    enters_fine : (form : Form) (n j : ℕ) (g : Gate) (gs : List Gate) (left : List Text) (next : List Text → Move) → drop j gates ≡ g ∷ gs → weight gs + 1 + total gates ks < n
        → ((left' : List Text) → Fine form n (next left')) → Fine form n (enters gates form s m form (k ∷ ks) left k j g next)
    enters_fine passes n j g gs left next is less on = (
      subst (λ xs. weight xs + 1 + total gates ks < n) (sym (after_one j gates g gs is)) less,
      there,
      asked_here gates s all there.0 k ks (sym there.1) here j g gs is,
    )
    enters_fine (tells called text) n j g gs left next is less on = notes_fine m (tells called text) n k left next on

    settles_fine : (form : Form) (b : Bool) (n j : ℕ) (g : Gate) (gs : List Gate) (left : List Text) (next : List Text → Move) → drop j gates ≡ g ∷ gs → weight gs + 1 + total gates ks < n
        → ((left' : List Text) → Fine form n (next left')) → Fine form n (settles gates form s m b (k ∷ ks) left k j g next)
    settles_fine form true n j g gs left next is less on = enters_fine form n j g gs left next is less on
    settles_fine form false n j g gs left next is less on = on left

    pattern_fine : (form : Form) (n j l : ℕ) (g : Gate) (gs : List Gate) (left : List Text) (next : List Text → Move) → drop j gates ≡ g ∷ gs → weight gs + 1 + total gates ks < n
        → ((left' : List Text) → Fine form n (next left')) → (ps : List Text) → drop l g.patterns ≡ ps → length ps + 2 + weight gs + total gates ks < n
        → Fine form n (at_pattern gates form s m (k ∷ ks) left k j l g ps next)
    pattern_fine form n j l g gs left next is less on [] e small = settles_fine form (opens g.condition false) n j g gs left next is less on
    pattern_fine form n j l g gs left next is less on (p ∷ ps) e small = (left_here, there)
      where
        left_here : tested_left gates j l (k ∷ ks) < n
        left_here = subst (λ xs. tested_weight l xs + total gates ks < n) (sym is) (subst (λ xs. length xs + 2 + weight gs + total gates ks < n) (sym e) small)

    gates_fine : (form : Form) (n : ℕ) (next : List Text → Move) → ((left' : List Text) → Fine form n (next left')) → (gs : List Gate) (j : ℕ) → drop j gates ≡ gs
        → weight gs + total gates ks < n → (left : List Text) → Fine form n (at_gates gates form s m (k ∷ ks) left k j gs next)
    gates_fine form n next on [] j is less left = on left
    gates_fine form n next on (g ∷ gs) j is less left = pattern_fine form n j 0 g gs left (λ left'. at_gates gates form s m (k ∷ ks) left' k (j + 1) gs next) is (omega arith)
        (λ left'. gates_fine form n next on gs (j + 1) (after_one j gates g gs is) (omega arith) left') g.patterns refl (omega arith)

    matched_fine : (form : Form) (won : Bool) (n j l : ℕ) (g : Gate) (gs : List Gate) (left : List Text) (next : List Text → Move) → drop j gates ≡ g ∷ gs
        → n ≡ length (drop l g.patterns) + 2 + weight gs + total gates ks
        → ((left' : List Text) → Fine form n (next left')) → Fine form n (matched_by gates form s m won (k ∷ ks) left k j l g next)
    matched_fine form true n j l g gs left next is same on = settles_fine form (opens g.condition true) n j g gs left next is (omega arith) on
    matched_fine form false n j l g gs left next is same on = past (drop l g.patterns) refl
      where
        past : (ps : List Text) → drop l g.patterns ≡ ps → Fine form n (at_pattern gates form s m (k ∷ ks) left k j (l + 1) g (drop (l + 1) g.patterns) next)
        past [] e = subst (λ xs. Fine form n (at_pattern gates form s m (k ∷ ks) left k j (l + 1) g xs next)) (sym (none_after l g.patterns e))
            (settles_fine form (opens g.condition false) n j g gs left next is (omega arith) on)
        past (p ∷ ps) e = let one : length (drop l g.patterns) ≡ length ps + 1 = ap length e ∙ sym (add-one (length ps)) in
            pattern_fine form n j (l + 1) g gs left next is (omega arith) on (drop (l + 1) g.patterns) refl
            (subst (λ xs. length xs + 2 + weight gs + total gates ks < n) (sym (after_one l g.patterns p ps e)) (omega arith))

  -- ---- member by member

  abbrev seek_bound : ℕ → List Text → ℕ
  seek_bound j [] = 0
  seek_bound j (k ∷ ks) = weight (drop j gates) + total gates ks

  from_start : (ks : List Text) → seek_bound 0 ks ≡ total gates ks
  from_start [] = refl
  from_start (k ∷ ks) = refl

  seek_at_fine : (form : Form) (n : ℕ) (k : Text) (ks : List Text) → IsRest all (k ∷ ks) → ((left' : List Text) → Fine form n (seeks gates form s m 0 left' ks))
      → (j : ℕ) (left : List Text) → weight (drop j gates) + total gates ks < n → (b : Bool) → has_member k s ≡ b
      → Fine form n (if b then at_gates gates form s m (k ∷ ks) left k j (drop j gates) (λ left'. seeks gates form s m 0 left' ks) else seeks gates form s m 0 left ks)
  seek_at_fine form n k ks there on j left less true here = gates_fine k ks there here form n (λ left'. seeks gates form s m 0 left' ks) on (drop j gates) j refl less left
  seek_at_fine form n k ks there on j left less false none = on left

  seeks_fine : (form : Form) (n : ℕ) (ks : List Text) → IsRest all ks → (j : ℕ) (left : List Text) → seek_bound j ks < n → Fine form n (seeks gates form s m j left ks)
  seeks_fine form n [] there j left less = tt
  seeks_fine form n (k ∷ ks) there j left less = seek_at_fine form n k ks there
      (λ left'. seeks_fine form n ks (rest_later all k ks there) 0 left' (let e : seek_bound 0 ks ≡ total gates ks = from_start ks in omega arith)) j left less (has_member k s) refl

  all_fine : (form : Form) (n : ℕ) (ks : List Text) → IsRest all ks → total gates ks < n → (left : List Text) → Fine form n (seeks gates form s m 0 left ks)
  all_fine form n ks there less left = seeks_fine form n ks there 0 left (let e : seek_bound 0 ks ≡ total gates ks = from_start ks in omega arith)

  tested_at_fine : (form : Form) (won : Bool) (k : Text) (ks : List Text) → IsRest all (k ∷ ks) → has_member k s ≡ true → (j l : ℕ) (left : List Text) (gs : List Gate) → drop j gates ≡ gs
      → Fine form (tested_weight l gs + total gates ks) (tested_at gates form s m won (k ∷ ks) left k j l gs (λ left'. seeks gates form s m 0 left' ks))
  tested_at_fine form won k ks there here j l left [] is = all_fine form _ ks (rest_later all k ks there) (omega arith) left
  tested_at_fine form won k ks there here j l left (g ∷ gs) is =
      matched_fine k ks there here form won _ j l g gs left (λ left'. at_gates gates form s m (k ∷ ks) left' k (j + 1) gs (λ left''. seeks gates form s m 0 left'' ks)) is refl
      (λ left'. gates_fine k ks there here form _ (λ left''. seeks gates form s m 0 left'' ks) (all_fine form _ ks (rest_later all k ks there) (omega arith))
      gs (j + 1) (after_one j gates g gs is) (omega arith) left')

  some_weight : (l : ℕ) (gs : List Gate) → 0 < tested_weight l gs
  some_weight l [] = omega arith
  some_weight l (g ∷ gs) = omega arith

  tested_fine : (form : Form) (won : Bool) (j l : ℕ) (left names : List Text) → IsRest all names → Fine form (tested_left gates j l names) (tested gates form s m won j l left names)
  tested_fine form won j l left [] there = tt
  tested_fine form won j l left (k ∷ ks) there = at (has_member k s) refl
    where
      at : (b : Bool) → has_member k s ≡ b → Fine form (tested_weight l (drop j gates) + total gates ks)
          (if b then tested_at gates form s m won (k ∷ ks) left k j l (drop j gates) (λ left'. seeks gates form s m 0 left' ks) else seeks gates form s m 0 left ks)
      at true here = tested_at_fine form won k ks there here j l left (drop j gates) refl
      at false none = all_fine form _ ks (rest_later all k ks there) (let w : 0 < tested_weight l (drop j gates) = some_weight l (drop j gates) in omega arith) left

  answered_fine : (form : Form) (onward : Bool) (j : ℕ) (left names : List Text) → IsRest all names → Fine form (asked_left gates j names) (answered gates form s m onward j left names)
  answered_fine form false j left names there = tt
  answered_fine form true j left [] there = tt
  answered_fine form true j left (k ∷ ks) there = seeks_fine form _ (k ∷ ks) there (j + 1) left (omega arith)

  pub move_fine : (form : Form) (stage : GateStage) (left names : List Text) (won onward : Bool) → IsRest all names → Fine form (turns_left gates stage names) (move_by gates form s m stage left names won onward)
  move_fine form Begun left names won onward there = all_fine form _ names there (omega arith) left
  move_fine form (Tested j l) left names won onward there = tested_fine form won j l left names there
  move_fine form (Asked j) left names won onward there = answered_fine form onward j left names there
  move_fine form Ended left names won onward there = tt

  -- ---- So a turn ends the run, or asks what it may ask and leaves fewer turns to take.

  fine_falls : (form : Form) (n : ℕ) (mv : Move) → Fine form n mv → (turn_by m mv ≡ done) ⊎ (turns_left gates (run_after m mv).stage (run_after m mv).names < n)
  fine_falls form n (halts names) h = inl refl
  fine_falls form n (tests names left j l p k) h = inr h.0
  fine_falls form n (asks names left j q) h = inr h.0

  nothing_left : (xs : List Text) → [] ≡ drop (length xs) xs
  nothing_left [] = refl
  nothing_left (x ∷ xs) = nothing_left xs

  fine_rest : (form : Form) (n : ℕ) (mv : Move) → Fine form n mv → IsRest all (run_after m mv).names
  fine_rest form n (halts names) h = (length all, nothing_left all)
  fine_rest form n (tests names left j l p k) h = h.1
  fine_rest form n (asks names left j q) h = h.1

  fine_turn : (form : Form) (n : ℕ) (mv : Move) → Fine form n mv → (P : Turn → Type 0) → P done → ((p k : Text) → P (match_text (pair_with k p) (match_point m p)))
      → ((q : Question) → Contains (asked_of form (gated gates s all)) q → P (ask q (mode_of m))) → P (turn_by m mv)
  fine_turn form n (halts names) h P ends matched asked = ends
  fine_turn form n (tests names left j l p k) h P ends matched asked = matched p k
  fine_turn form n (asks names left j q) h P ends matched asked = asked q h.2

-- ---- The open questions are among those that may be asked.

open_all : (P : Question → Type 0) (texts : Bool) (form : Form) (matching : Matching) (gs : List Gated) → All P (asked_of form gs) → All P (questions (way_by texts form matching gs))
open_all P texts (tells called text) matching gs h = All-nil _
open_all P texts passes matching [] h = h
open_all P texts passes matching (g ∷ gs) h = kept (is_open matching g) (open_all P texts passes matching gs (All-tail P g.question (map question_of gs) h))
  where
    kept : (b : Bool) → All P (map question_of (open_ones matching gs)) → All P (map question_of (if b then g ∷ open_ones matching gs else open_ones matching gs))
    kept true rest = All-cons P g.question (map question_of (open_ones matching gs)) (All-head P g.question (map question_of gs) h) rest
    kept false rest = rest

module _ (s : Subject) where
  abbrev There : Question → Type 0
  There q = IsPresent s (steps_below q.below)

  gates_there : (gates : List Gate) (k : Text) → has_member k s ≡ true → All There (map question_of (map (gated_at k) gates))
  gates_there [] k h = All-nil _
  gates_there (g ∷ gates) k h = All-cons There (at_member g.child k) _ (member_present k s h) (gates_there gates k h)

  here_there : (gates : List Gate) (k : Text) (b : Bool) → has_member k s ≡ b → All There (map question_of (gated_here b gates k))
  here_there gates k true h = gates_there gates k h
  here_there gates k false h = All-nil _

  all_there : (gates : List Gate) (ks : List Text) → All There (map question_of (gated gates s ks))
  all_there gates [] = All-nil _
  all_there gates (k ∷ ks) = subst (All There) (sym (map-append question_of (gated_here (has_member k s) gates k) (gated gates s ks)))
      (All-append There _ _ (here_there gates k (has_member k s) refl) (all_there gates ks))

  asked_there : (form : Form) (gs : List Gated) → All There (map question_of gs) → All There (asked_of form gs)
  asked_there passes gs h = h
  asked_there (tells called text) gs h = All-nil _

-- ---- The runs of a way end in the answer that the way means.

ends_by : (texts : Bool) (form : Form) (gs : List Gated) (matching : Matching) (a : Answers) (u : Question → Unit_) → ((q : Question) → (report_of (u q)).valid ≡ (a q).verdict) → (mode' : spec.Mode)
    → IsEnd (way_of texts form gs) matching a u mode' (finished texts (mode_from mode') (reply_for (mode_from mode') a u) form (fresh mode') [] gs)
ends_by texts passes gs matching a u valid for_verdict = way_ends (way_of texts passes gs) matching a u valid for_verdict
ends_by texts passes gs matching a u valid for_first = way_ends (way_of texts passes gs) matching a u valid for_first
ends_by texts passes gs matching a u valid for_all = way_ends (way_of texts passes gs) matching a u valid for_all
ends_by texts passes gs matching a u valid for_units = way_ends (way_of texts passes gs) matching a u valid for_units
ends_by texts (tells called text) gs matching a u valid for_verdict = way_ends (way_of texts (tells called text) gs) matching a u valid for_verdict
ends_by texts (tells called text) gs matching a u valid for_first = way_ends (way_of texts (tells called text) gs) matching a u valid for_first
ends_by texts (tells called text) gs matching a u valid for_all = way_ends (way_of texts (tells called text) gs) matching a u valid for_all
ends_by texts (tells called text) gs matching a u valid for_units = way_ends (way_of texts (tells called text) gs) matching a u valid for_units

grows_by : (texts : Bool) (form : Form) (gs : List Gated) → way_says_monotone (way_of texts form gs) ≡ true
grows_by texts passes gs = refl
grows_by texts (tells called text) gs = refl

wider : (answers : Answers) (qs rs : List Question) → All (Contains rs) qs → (f : Fault) → PassesUnchanged answers qs f → PassesUnchanged answers rs f
wider answers qs rs inside (own o) h = tt
wider answers qs rs inside (passed e) (q, there, is) = (q, All-contains (Contains rs) qs q inside there, is)

module _ (texts : Bool) (matching : Matching) (u : Question → Unit_) (rs : List Question) where
  -- The units that the keyword returns are those of its open questions.
  children_by : (form : Form) (gs : List Gated) → All (Contains rs) (questions (way_of texts form gs)) → All (IsHandedOn u rs) (way_units (way_of texts form gs) matching u).children
  children_by passes gs h = All-map (IsHandedOn u rs) u (map question_of gs) (All-weaker (Contains rs) (λ q. IsHandedOn u rs (u q)) (λ q c. (q, c, refl)) (map question_of gs) h)
  children_by (tells called text) gs h = All-nil _

  absorbed_by : (P : Named → Type 0) (form : Form) (gs : List Gated) → All P (way_units (way_of texts form gs) matching u).absorbed
  absorbed_by P passes gs = All-nil _
  absorbed_by P (tells called text) gs = All-nil _

-- ---- keywords with gates

abbrev pub State : Type 0
State = GateRun × Answer

module _ {M : Type 0} (gates_of : M → List Gate) (form_of : M → Form) (names_of : M → Subject → List Text) where
  abbrev pub gated_in : M → Subject → List Gated
  gated_in m s = gated (gates_of m) s (names_of m s)

  abbrev pub gated_way : Bool → M → Subject → Matching → Way
  gated_way texts m s matches = way_by texts (form_of m) matches (gated_in m s)

  abbrev pub gated_move : M → Subject → State → Reply → Move
  gated_move m s r reply = move_at (gates_of m) (form_of m) s r.0 reply

  abbrev pub gated_words : Bool → Keywords M State
  gated_words texts = record {
    texts = texts;
    may_ask = λ m s. asked_of (form_of m) (gated_in m s);
    spans = λ m s. [];
    is_told = λ m. false;
    holds = λ m s matches accepts. way_holds (gated_way texts m s matches) matches accepts;
    faults = λ m s matches answers. way_faults (gated_way texts m s matches) matches answers;
    units = λ m s matches unit_at. way_units (gated_way texts m s matches) matches unit_at;
    most_turns = λ m s. total (gates_of m) (names_of m s) + 2;
    begin = λ m s mode'. (run_begin mode' (names_of m s), fresh mode');
    turn = λ m s r reply. (run_after r.0.mode (gated_move m s r reply), answer_by texts (form_of m) r.0.mode (answer_at r.0.stage r.1 reply) (gated_move m s r reply));
    step = λ m s r reply. turn_by r.0.mode (gated_move m s r reply);
    answer = λ r. r.1;
  }

  abbrev pub gated_absorbed : M → List Text
  gated_absorbed m = []

  abbrev pub gated_left : M → Subject → State → ℕ
  gated_left m s r = turns_left (gates_of m) r.0.stage r.0.names

  -- The names that are left are the last of all.
  abbrev pub gated_can_be : Bool → M → Subject → State → Type 0
  gated_can_be texts m s r = IsRest (names_of m s) r.0.names

  abbrev pub gated_ends : Bool → M → Standing State → Answer
  gated_ends texts m x = end_by (gates_of m) x.subject x.matches texts x.state.0.mode (reply_for x.state.0.mode x.answers x.unit_at) (form_of m) x.state.0.stage x.state.0.left x.state.0.names x.state.1 x.reply

  abbrev pub gated_fits : Bool → M → Standing State → Type 0
  gated_fits texts m x = Unit {0}

  -- ---- the keyword's turns

  same_reply : (texts : Bool) (m : M) (s : Subject) (matches : Matching) (a : Answers) (u : Question → Unit_) (same : Marked → Marked → Bool) (mode' : Mode) (q : Question)
      → answer_in (gated_words texts) m s matches a u same (mode_of mode') q ≡ reply_for mode' a u q
  same_reply texts m s matches a u same mode.Verdict q = refl
  same_reply texts m s matches a u same mode.First q = refl
  same_reply texts m s matches a u same mode.All q = refl
  same_reply texts m s matches a u same mode.Evaluate q = refl

  module _ (texts : Bool) (m : M) (x : Standing State) where
    abbrev replied : Move → Reply
    replied mv = reply_to (gated_words texts) m x.subject x.matches x.answers x.unit_at x.same x.marks (turn_by x.state.0.mode mv)

    abbrev questioned : Question → Reply
    questioned = reply_for x.state.0.mode x.answers x.unit_at

    abbrev led_by : Move → Answer → Answer
    led_by mv a = leads_to (gates_of m) x.subject x.matches texts x.state.0.mode questioned (form_of m) mv a

    abbrev standing_at : GateRun → Answer → Reply → Answer
    standing_at r a reply = end_by (gates_of m) x.subject x.matches texts x.state.0.mode questioned (form_of m) r.stage r.left r.names a reply

    -- after a move that does not end the run
    after_move : (a : Answer) (mv : Move) → (turn_by x.state.0.mode mv ≡ done → ⊥)
        → standing_at (run_after x.state.0.mode mv) (answer_by texts (form_of m) x.state.0.mode a mv) (replied mv) ≡ led_by mv a
    after_move a (halts names) h = absurd (h refl)
    after_move a (tests names left j l p k) h = refl
    after_move a (asks names left j q) h = ap (end_by (gates_of m) x.subject x.matches texts x.state.0.mode questioned (form_of m) (Asked j) left names a)
        (same_reply texts m x.subject x.matches x.answers x.unit_at x.same x.state.0.mode q)

    -- after a move that ends the run
    at_end : (a : Answer) (mv : Move) → turn_by x.state.0.mode mv ≡ done → answer_by texts (form_of m) x.state.0.mode a mv ≡ led_by mv a
    at_end a (halts names) h = refl
    at_end a (tests names left j l p k) h = cc
    at_end a (asks names left j q) h = cc

    abbrev moved : Move
    moved = gated_move m x.subject x.state x.reply

    abbrev answered_so : Answer
    answered_so = answer_at x.state.0.stage x.state.1 x.reply

    leads_there : led_by moved answered_so ≡ gated_ends texts m x
    leads_there = move_leads (gates_of m) x.subject x.matches texts x.state.0.mode questioned (form_of m) x.state.0.stage x.state.0.left x.state.0.names x.state.1 x.reply

  ends_rightly : (texts : Bool) (m : M) (s : Subject) (mode' : spec.Mode) (matches : Matching) (a : Answers) (u : Question → Unit_) (same : Marked → Marked → Bool)
      → ((q : Question) → (report_of (u q)).valid ≡ (a q).verdict)
      → IsRight (gated_words texts) m s matches a u same mode'
      (finished texts (mode_from mode') (reply_for (mode_from mode') a u) (form_of m) (fresh mode') [] (open_at (gates_of m) s matches (names_of m s)))
  ends_rightly texts m s for_verdict matches a u same valid = ends_by texts (form_of m) (open_at (gates_of m) s matches (names_of m s)) matches a u valid for_verdict
  ends_rightly texts m s for_first matches a u same valid = ends_by texts (form_of m) (open_at (gates_of m) s matches (names_of m s)) matches a u valid for_first
  ends_rightly texts m s for_all matches a u same valid = ends_by texts (form_of m) (open_at (gates_of m) s matches (names_of m s)) matches a u valid for_all
  ends_rightly texts m s for_units matches a u same valid = ends_by texts (form_of m) (open_at (gates_of m) s matches (names_of m s)) matches a u valid for_units

  fine_move : (m : M) (s : Subject) (r : State) (reply : Reply) → IsRest (names_of m s) r.0.names
      → IsFine (gates_of m) (form_of m) s (names_of m s) (turns_left (gates_of m) r.0.stage r.0.names) (gated_move m s r reply)
  fine_move m s r reply can = move_fine (gates_of m) s r.0.mode (names_of m s) (form_of m) r.0.stage r.0.left r.0.names (says_yes reply) (goes_on reply) can

  one_less : (n : ℕ) → n + 1 < n + 2
  one_less n = omega arith

  pub gated_turns : (texts : Bool) (m : M) → TurnLaws (gated_words texts) m (gated_absorbed m) (gated_left m) (gated_can_be texts m) (gated_ends texts m) (gated_fits texts m)
  gated_turns texts m = record {
    bounded = λ s mode'. one_less (total (gates_of m) (names_of m s));
    starts = λ s mode'. (0, refl);
    goes_on = λ s r reply can. fine_rest (gates_of m) s r.0.mode (names_of m s) (form_of m) _ (gated_move m s r reply) (fine_move m s r reply can);
    falls = λ s r reply can. fine_falls (gates_of m) s r.0.mode (names_of m s) (form_of m) _ (gated_move m s r reply) (fine_move m s r reply can);
    asks = λ s r reply can. fine_turn (gates_of m) s r.0.mode (names_of m s) (form_of m) _ (gated_move m s r reply) (fine_move m s r reply can)
        (AsksRightly (gated_words texts) m s []) tt (λ p k. (refl, ([], refl), tt)) (λ q h. h);
    begins = λ s mode' matches a u same agrees valid alike. (tt, ends_rightly texts m s mode' matches a u same valid);
    keeps = λ x fits h. (tt, after_move texts m x (answered_so texts m x) (moved texts m x) h ∙ leads_there texts m x);
    stands = λ x fits h. at_end texts m x (answered_so texts m x) (moved texts m x) h ∙ leads_there texts m x;
  }

  -- ---- the keyword's functions

  open_inside : (texts : Bool) (m : M) (s : Subject) (matches : Matching) → All (Contains (asked_of (form_of m) (gated_in m s))) (questions (gated_way texts m s matches))
  open_inside texts m s matches = open_all (Contains (asked_of (form_of m) (gated_in m s))) texts (form_of m) matches (gated_in m s) (All-contains_itself (asked_of (form_of m) (gated_in m s)))

  pub gated_functions : (texts : Bool) (m : M) → FunctionLaws (gated_words texts) m (gated_absorbed m)
  gated_functions texts m = record {
    present = λ s. asked_there s (form_of m) (gated_in m s) (all_there s (gates_of m) (names_of m s));
    agree = λ s matches a agrees. way_agrees (gated_way texts m s matches) matches a agrees;
    units_valid = λ s matches u. way_units_valid (gated_way texts m s matches) matches u;
    holds_reads = λ s matches a b h. way_holds_reads (gated_way texts m s matches) matches a b (open_all (λ q. a q ≡ b q) texts (form_of m) matches (gated_in m s) h);
    faults_read = λ s matches a b h. way_faults_read (gated_way texts m s matches) matches a b (open_all (λ q. a q ≡ b q) texts (form_of m) matches (gated_in m s) h);
    units_read = λ s matches a b h. way_units_read (gated_way texts m s matches) matches a b (open_all (λ q. a q ≡ b q) texts (form_of m) matches (gated_in m s) h);
    spans_read = λ s. All-nil _;
    spans_stand = λ s. All-nil _;
    told_spans = λ told s. All-nil _;
    stands = λ s matches a. way_stands_inside (gated_way texts m s matches) matches s [] a;
    passes = λ s matches a. All-weaker (PassesUnchanged a (questions (gated_way texts m s matches))) (PassesUnchanged a (asked_of (form_of m) (gated_in m s)))
        (wider a (questions (gated_way texts m s matches)) (asked_of (form_of m) (gated_in m s)) (open_inside texts m s matches)) _ (way_passes (gated_way texts m s matches) matches a);
  }

  pub gated_grows : (texts : Bool) (m : M) → IsMonotone (gated_words texts) m
  gated_grows texts m = record {
    untold = refl;
    grows = λ s matches a b where_yes h. way_grows (gated_way texts m s matches) (grows_by texts (form_of m) (open_ones matches (gated_in m s))) matches a b where_yes h;
  }

  pub gated_hands_on : (texts : Bool) → EachHandsUnitsOn (gated_words texts) gated_absorbed
  gated_hands_on texts m s matches u = record {
    own = children_by texts matches u (asked_of (form_of m) (gated_in m s)) (form_of m) (open_ones matches (gated_in m s)) (open_inside texts m s matches);
    absorbed = absorbed_by texts matches u (asked_of (form_of m) (gated_in m s))
        (λ x. Contains (gated_absorbed m) x.name × All (IsHandedOn u ((gated_words texts).may_ask m s)) x.children) (form_of m) (open_ones matches (gated_in m s));
  }

  -- ---- what the keyword requests

  turn_for_less : (mode' : Mode) (mv : Move) → WantsNone mode' → AsksForLess (turn_by mode' mv)
  turn_for_less mode' (halts names) none = tt
  turn_for_less mode' (tests names left j l p k) none = tt
  turn_for_less mode' (asks names left j q) none = none

  for_less : (texts : Bool) (m : M) (s : Subject) (n : ℕ) (r : State) (reply : Reply) → WantsNone r.0.mode → AlwaysAsksForLess (gated_words texts) m s n r reply
  for_less texts m s zero r reply none = tt
  for_less texts m s (suc n) r reply none = (
    turn_for_less r.0.mode (gated_move m s r reply) none,
    λ after. for_less texts m s n ((gated_words texts).turn m s r reply) after none,
  )

  pub gated_units : (texts : Bool) → AsksNoUnits (gated_words texts)
  gated_units texts = λ m s mode' none. for_less texts m s (total (gates_of m) (names_of m s) + 2) (run_begin mode' (names_of m s), fresh mode') no_reply (λ e. none (sym (mode-kept mode') ∙ e))

  turn_for_verdicts : (mode' : Mode) (mv : Move) → WantsVerdict mode' → AsksVerdict (turn_by mode' mv)
  turn_for_verdicts mode' (halts names) wants = tt
  turn_for_verdicts mode' (tests names left j l p k) wants = tt
  turn_for_verdicts mode' (asks names left j q) wants = wants

  for_verdicts : (texts : Bool) (m : M) (s : Subject) (n : ℕ) (r : State) (reply : Reply) → WantsVerdict r.0.mode → AlwaysAsksVerdict (gated_words texts) m s n r reply
  for_verdicts texts m s zero r reply wants = tt
  for_verdicts texts m s (suc n) r reply wants = (
    turn_for_verdicts r.0.mode (gated_move m s r reply) wants,
    λ after. for_verdicts texts m s n ((gated_words texts).turn m s r reply) after wants,
  )

  pub gated_verdicts : (texts : Bool) → EachAsksVerdicts (gated_words texts)
  gated_verdicts texts = λ m s. for_verdicts texts m s (total (gates_of m) (names_of m s) + 2) (run_begin for_verdict (names_of m s), fresh for_verdict) no_reply refl
