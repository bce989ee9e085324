-- A run ends in the answer that its questions determine: the situation of a run determines the
-- final answer, and a turn does not change it.
use Rattle.std.proofs.Common.{◌≡◌, ◌∙◌, ℕ, zero, suc, ◌+◌, ◌||◌, ◌++◌, ◌∷◌, [], List, Bool, true, false, refl, sym, ap, add-one, append-nil, append_assoc, drop, map}
use Rattle.std.specs.List.{list_any}
use Rattle.std.specs.Prelude.{if◌then◌else◌}
use Rattle.theory_definitions.specs.Instance.{Subject, Text}
use Rattle.theory_definitions.specs.Matching.{Matching}
use Rattle.theory_definitions.specs.Keywords.{Answer, Question, Reply, truth}
use Rattle.schema_reports.specs.ReportViews.{spoken}
use Rattle.schema_traits.specs.declared.keyword.Mode.{Mode}
use Rattle.schema_traits.specs.declared.keyword.Mode.TheVariants as mode
use Rattle.keyword_authoring.specs.Members.{has_member}
use Rattle.keyword_authoring.specs.Tallies.{says_yes}
use Rattle.keyword_authoring.specs.WayRuns.{either, led}
use Rattle.keyword_authoring.specs.Ways.{goes_on, is_matched, noted, taken}
use Rattle.standard_pattern_properties.specs.Gates.{Form, Gate, Gated, at_member, gated, gated_at, gated_here, name_of, open_ones, opens, pair_with, passes, question_of, tells, told}
use Rattle.standard_pattern_properties.specs.GateMoves.{Move, answer_at, answered, asks, at_gates, at_pattern, enters, halts, matched_by, move_by, notes, seeks, settles, tested, tested_at, tests, told_in}
use Rattle.standard_pattern_properties.specs.declared.gates.GateStage.{GateStage}
use Rattle.standard_pattern_properties.specs.declared.gates.GateStage.TheVariants.{Asked, Begun, Ended, Tested}

-- ---- the list from a number on

after_suc : {A : Type 0} (i : ℕ) (xs : List A) (x : A) (rest : List A) → drop i xs ≡ x ∷ rest → drop (suc i) xs ≡ rest
after_suc zero [] x rest h = cc
after_suc (suc i) [] x rest h = cc
after_suc zero (y ∷ xs) x rest h = let e : xs ≡ rest = cc in e
after_suc (suc i) (y ∷ xs) x rest h = after_suc i xs x rest h

pub after_one : {A : Type 0} (i : ℕ) (xs : List A) (x : A) (rest : List A) → drop i xs ≡ x ∷ rest → drop (i + 1) xs ≡ rest
after_one i xs x rest h = ap (λ n. drop n xs) (add-one i) ∙ after_suc i xs x rest h

-- ---- the final answer of a run

-- the final answer, given the open questions that are left, and the names (`left`) that the error
-- shows before those of these questions
abbrev pub finished : Bool → Mode → (Question → Reply) → Form → Answer → List Text → List Gated → Answer
finished texts m reply passes a left gs = led reply a (map question_of gs)
finished texts m reply (tells called text) a left gs = noted m called a (map (spoken texts) (told text (left ++ map name_of gs)))

module _ (gates : List Gate) (s : Subject) (matching : Matching) where
  abbrev pub open_at : List Text → List Gated
  open_at ks = open_ones matching (gated gates s ks)

  -- the open questions that are left if the run has passed the first j gates at the current member
  abbrev pub open_after : ℕ → List Text → List Gated
  open_after j [] = []
  open_after j (k ∷ ks) = open_ones matching (gated_here (has_member k s) (drop j gates) k ++ gated gates s ks)

  -- the open questions if these gates are left at a member, followed by other members
  abbrev pub open_left : Text → List Gate → List Text → List Gated
  open_left k gs ks = open_ones matching (map (gated_at k) gs ++ gated gates s ks)

  -- the open questions with those of a gate, given whether one of its patterns matches
  abbrev pub open_if : Bool → Text → Gate → List Gated → List Gated
  open_if matched k g gs = if opens g.condition matched then gated_at k g ∷ gs else gs

  abbrev pub matches_one : Text → List Text → Bool
  matches_one k ps = list_any (is_matched matching) (map (pair_with k) ps)

  module _ (texts : Bool) (m : Mode) (reply : Question → Reply) (form : Form) where
    abbrev pub tested_end_at : Bool → ℕ → Text → List Text → Answer → List Text → List Gate → Answer
    tested_end_at won l k ks a left [] = finished texts m reply form a left (open_at ks)
    tested_end_at won l k ks a left (g ∷ gs) =
        finished texts m reply form a left (open_if (won || matches_one k (drop (l + 1) g.patterns)) k g (open_left k gs ks))

    abbrev pub tested_end : Bool → ℕ → ℕ → Answer → List Text → List Text → Answer
    tested_end won j l a left [] = told_in texts form m a left
    tested_end won j l a left (k ∷ ks) = if has_member k s then tested_end_at won l k ks a left (drop j gates) else finished texts m reply form a left (open_at ks)

    abbrev pub end_by : GateStage → List Text → List Text → Answer → Reply → Answer
    end_by Begun left names a r = finished texts m reply form a left (open_at names)
    end_by (Tested j l) left names a r = tested_end (says_yes r) j l a left names
    end_by (Asked j) left names a r = either (goes_on r) (finished texts m reply form (taken a r) left (open_after (j + 1) names)) (told_in texts form m (taken a r) left)
    end_by Ended left names a r = told_in texts form m a left

    -- the final answer after a move whose reply is the true one
    abbrev pub leads_to : Move → Answer → Answer
    leads_to (halts names) a = told_in texts form m a names
    leads_to (tests names left j l p k) a = end_by (Tested j l) left names a (truth (matching.matches p k))
    leads_to (asks names left j q) a = end_by (Asked j) left names a (reply q)

    -- What follows ends in the answer that these questions determine.
    abbrev pub LeadsOn : Answer → (List Text → Move) → List Gated → Type 0
    LeadsOn a next gs = (left : List Text) → leads_to (next left) a ≡ finished texts m reply form a left gs

-- ---- a name that the error shows

refused_told : (texts : Bool) (called : Text) (text : List Text → Text) (a : Answer) (k : Text) (left names : List Text)
    → noted mode.Verdict called a (map (spoken texts) (told text (left ++ k ∷ []))) ≡ noted mode.Verdict called a (map (spoken texts) (told text (left ++ k ∷ names)))
refused_told texts called text a k [] names = refl
refused_told texts called text a k (l ∷ left) names = refl

more_told : (texts : Bool) (m : Mode) (called : Text) (text : List Text → Text) (a : Answer) (k : Text) (left names : List Text)
    → noted m called a (map (spoken texts) (told text ((left ++ k ∷ []) ++ names))) ≡ noted m called a (map (spoken texts) (told text (left ++ k ∷ names)))
more_told texts m called text a k left names = ap (λ ks. noted m called a (map (spoken texts) (told text ks))) (append_assoc left (k ∷ []) names)

none_open : (texts : Bool) (m : Mode) (reply : Question → Reply) (form : Form) (a : Answer) (left : List Text) → told_in texts form m a left ≡ finished texts m reply form a left []
none_open texts m reply passes a left = refl
none_open texts m reply (tells called text) a left = ap (λ ks. noted m called a (map (spoken texts) (told text ks))) (sym (append-nil left))

module _ (gates : List Gate) (s : Subject) (matching : Matching) (texts : Bool) (reply : Question → Reply) where
  notes_lead : (m : Mode) (called : Text) (text : List Text → Text) (a : Answer) (k : Text) (g : Gated) (gs : List Gated) (next : List Text → Move) → g.name ≡ k
      → LeadsOn gates s matching texts m reply (tells called text) a next gs → (left : List Text)
      → leads_to gates s matching texts m reply (tells called text) (notes gates (tells called text) s m m k left next) a ≡ finished texts m reply (tells called text) a left (g ∷ gs)
  notes_lead mode.Verdict called text a k g gs next is on left = refused_told texts called text a k left (map name_of gs)
      ∙ ap (λ l. noted mode.Verdict called a (map (spoken texts) (told text (left ++ l ∷ map name_of gs)))) (sym is)
  notes_lead mode.First called text a k g gs next is on left = on (left ++ k ∷ []) ∙ (more_told texts mode.First called text a k left (map name_of gs)
      ∙ ap (λ l. noted mode.First called a (map (spoken texts) (told text (left ++ l ∷ map name_of gs)))) (sym is))
  notes_lead mode.All called text a k g gs next is on left = on (left ++ k ∷ []) ∙ (more_told texts mode.All called text a k left (map name_of gs)
      ∙ ap (λ l. noted mode.All called a (map (spoken texts) (told text (left ++ l ∷ map name_of gs)))) (sym is))
  notes_lead mode.Evaluate called text a k g gs next is on left = on (left ++ k ∷ []) ∙ (more_told texts mode.Evaluate called text a k left (map name_of gs)
      ∙ ap (λ l. noted mode.Evaluate called a (map (spoken texts) (told text (left ++ l ∷ map name_of gs)))) (sym is))

  -- a gate that is open
  enters_lead : (form : Form) (m : Mode) (a : Answer) (k : Text) (ks : List Text) (j : ℕ) (g : Gate) (gs : List Gate) (next : List Text → Move)
      → has_member k s ≡ true → drop (j + 1) gates ≡ gs → LeadsOn gates s matching texts m reply form a next (open_left gates s matching k gs ks) → (left : List Text)
      → leads_to gates s matching texts m reply form (enters gates form s m form (k ∷ ks) left k j g next) a
      ≡ finished texts m reply form a left (gated_at k g ∷ open_left gates s matching k gs ks)
  enters_lead passes m a k ks j g gs next here after on left = ap (λ b. ends (gated_here b (drop (j + 1) gates) k)) here ∙ ap (λ xs. ends (map (gated_at k) xs)) after
    where
      ends : List Gated → Answer
      ends xs = either (goes_on (reply (at_member g.child k)))
          (led reply (taken a (reply (at_member g.child k))) (map question_of (open_ones matching (xs ++ gated gates s ks)))) (taken a (reply (at_member g.child k)))
  enters_lead (tells called text) m a k ks j g gs next here after on left = notes_lead m called text a k (gated_at k g) (open_left gates s matching k gs ks) next refl on left

module _ (gates : List Gate) (s : Subject) (matching : Matching) (texts : Bool) (m : Mode) (reply : Question → Reply) (form : Form) (a : Answer) where
  abbrev Leads : (List Text → Move) → List Gated → Type 0
  Leads = LeadsOn gates s matching texts m reply form a

  abbrev leads : Move → Answer
  leads mv = leads_to gates s matching texts m reply form mv a

  abbrev ends_in : List Text → List Gated → Answer
  ends_in = finished texts m reply form a

  halts_lead : (left : List Text) → leads (halts left) ≡ ends_in left []
  halts_lead left = none_open texts m reply form a left

  module _ (k : Text) (ks : List Text) (here : has_member k s ≡ true) where
    abbrev rest : List Gate → List Gated
    rest gs = open_left gates s matching k gs ks

    settles_lead : (b : Bool) (j : ℕ) (g : Gate) (gs : List Gate) (next : List Text → Move) → drop (j + 1) gates ≡ gs → Leads next (rest gs) → (left : List Text)
        → leads (settles gates form s m b (k ∷ ks) left k j g next) ≡ ends_in left (if b then gated_at k g ∷ rest gs else rest gs)
    settles_lead true j g gs next after on left = enters_lead gates s matching texts reply form m a k ks j g gs next here after on left
    settles_lead false j g gs next after on left = on left

    pattern_leads : (j l : ℕ) (g : Gate) (gs : List Gate) (next : List Text → Move) → drop j gates ≡ g ∷ gs → Leads next (rest gs)
        → (ps : List Text) → drop l g.patterns ≡ ps → (left : List Text)
        → leads (at_pattern gates form s m (k ∷ ks) left k j l g ps next) ≡ ends_in left (open_if gates s matching (matches_one gates s matching k ps) k g (rest gs))
    pattern_leads j l g gs next is on [] e left = settles_lead (opens g.condition false) j g gs next (after_one j gates g gs is) on left
    pattern_leads j l g gs next is on (p ∷ ps) e left =
        ap (λ b. if b then tested_end_at gates s matching texts m reply form won l k ks a left (drop j gates) else ends_in left (open_at gates s matching ks)) here
        ∙ (ap (tested_end_at gates s matching texts m reply form won l k ks a left) is
        ∙ ap (λ xs. ends_in left (open_if gates s matching (won || matches_one gates s matching k xs) k g (rest gs))) (after_one l g.patterns p ps e))
      where
        won : Bool
        won = matching.matches p k

    gates_lead : (next : List Text → Move) → Leads next (open_at gates s matching ks) → (j : ℕ) (gs : List Gate) → drop j gates ≡ gs → (left : List Text)
        → leads (at_gates gates form s m (k ∷ ks) left k j gs next) ≡ ends_in left (rest gs)
    gates_lead next on j [] is left = on left
    gates_lead next on j (g ∷ gs) is left = pattern_leads j 0 g gs (λ left'. at_gates gates form s m (k ∷ ks) left' k (j + 1) gs next) is
        (gates_lead next on (j + 1) gs (after_one j gates g gs is)) g.patterns refl left

    -- after a match
    matched_leads : (won : Bool) (j l : ℕ) (g : Gate) (gs : List Gate) (next : List Text → Move) → drop j gates ≡ g ∷ gs → Leads next (rest gs) → (left : List Text)
        → leads (matched_by gates form s m won (k ∷ ks) left k j l g next) ≡ ends_in left (open_if gates s matching (won || matches_one gates s matching k (drop (l + 1) g.patterns)) k g (rest gs))
    matched_leads true j l g gs next is on left = settles_lead (opens g.condition true) j g gs next (after_one j gates g gs is) on left
    matched_leads false j l g gs next is on left = pattern_leads j (l + 1) g gs next is on (drop (l + 1) g.patterns) refl left

    tested_at_leads : (won : Bool) (j l : ℕ) (next : List Text → Move) → Leads next (open_at gates s matching ks) → (gs : List Gate) → drop j gates ≡ gs → (left : List Text)
        → leads (tested_at gates form s m won (k ∷ ks) left k j l gs next) ≡ tested_end_at gates s matching texts m reply form won l k ks a left gs
    tested_at_leads won j l next on [] is left = on left
    tested_at_leads won j l next on (g ∷ gs) is left = matched_leads won j l g gs (λ left'. at_gates gates form s m (k ∷ ks) left' k (j + 1) gs next) is
        (gates_lead next on (j + 1) gs (after_one j gates g gs is)) left

  -- ---- member by member

  seek_at : (k : Text) (ks : List Text) → Leads (λ left'. seeks gates form s m 0 left' ks) (open_at gates s matching ks) → (j : ℕ) (left : List Text) (b : Bool) → has_member k s ≡ b
      → leads (if b then at_gates gates form s m (k ∷ ks) left k j (drop j gates) (λ left'. seeks gates form s m 0 left' ks) else seeks gates form s m 0 left ks)
      ≡ ends_in left (open_ones matching (gated_here b (drop j gates) k ++ gated gates s ks))
  seek_at k ks on j left true here = gates_lead k ks here (λ left'. seeks gates form s m 0 left' ks) on j (drop j gates) refl left
  seek_at k ks on j left false none = on left

  from_first : (ks : List Text) → open_after gates s matching 0 ks ≡ open_at gates s matching ks
  from_first [] = refl
  from_first (k ∷ ks) = refl

  seeks_lead : (ks : List Text) (j : ℕ) (left : List Text) → leads (seeks gates form s m j left ks) ≡ ends_in left (open_after gates s matching j ks)
  seeks_lead [] j left = halts_lead left
  seeks_lead (k ∷ ks) j left = seek_at k ks (λ left'. seeks_lead ks 0 left' ∙ ap (ends_in left') (from_first ks)) j left (has_member k s) refl

  -- from the first gate on
  all_leads : (ks : List Text) (left : List Text) → leads (seeks gates form s m 0 left ks) ≡ ends_in left (open_at gates s matching ks)
  all_leads ks left = seeks_lead ks 0 left ∙ ap (ends_in left) (from_first ks)

  tested_leads : (won : Bool) (j l : ℕ) (left names : List Text) → leads (tested gates form s m won j l left names) ≡ tested_end gates s matching texts m reply form won j l a left names
  tested_leads won j l left [] = refl
  tested_leads won j l left (k ∷ ks) = at (has_member k s) refl
    where
      at : (b : Bool) → has_member k s ≡ b
          → leads (if b then tested_at gates form s m won (k ∷ ks) left k j l (drop j gates) (λ left'. seeks gates form s m 0 left' ks) else seeks gates form s m 0 left ks)
          ≡ (if b then tested_end_at gates s matching texts m reply form won l k ks a left (drop j gates) else ends_in left (open_at gates s matching ks))
      at true here = tested_at_leads k ks here won j l (λ left'. seeks gates form s m 0 left' ks) (all_leads ks) (drop j gates) refl left
      at false none = all_leads ks left

  answered_leads : (onward : Bool) (j : ℕ) (left names : List Text)
      → leads (answered gates form s m onward j left names) ≡ either onward (ends_in left (open_after gates s matching (j + 1) names)) (told_in texts form m a left)
  answered_leads true j left names = seeks_lead names (j + 1) left
  answered_leads false j left names = refl

-- A move does not change the final answer.
pub move_leads : (gates : List Gate) (s : Subject) (matching : Matching) (texts : Bool) (m : Mode) (reply : Question → Reply) (form : Form) (stage : GateStage) (left names : List Text) (a : Answer) (r : Reply)
    → leads_to gates s matching texts m reply form (move_by gates form s m stage left names (says_yes r) (goes_on r)) (answer_at stage a r)
    ≡ end_by gates s matching texts m reply form stage left names a r
move_leads gates s matching texts m reply form Begun left names a r = all_leads gates s matching texts m reply form a names left
move_leads gates s matching texts m reply form (Tested j l) left names a r = tested_leads gates s matching texts m reply form a (says_yes r) j l left names
move_leads gates s matching texts m reply form (Asked j) left names a r = answered_leads gates s matching texts m reply form (taken a r) (goes_on r) j left names
move_leads gates s matching texts m reply form Ended left names a r = refl
