-- The basic keywords keep the laws that every keyword must keep.
use Rattle.std.proofs.Common.{◌≡◌, ◌∙◌, ◌<◌, ◌∷◌, ℕ, zero, List, [], Bool, true, false, Option, Some, None, refl, sym, ap, subst, arith, min, ◌+◌, ◌-◌, is_some, map}
use Rattle.std.specs.Prelude.{All, Contains, bytes_eq, if◌then◌else◌}
use Rattle.std.proofs.lemmas.List.{length-map}
use Rattle.std.proofs.lemmas.List.Elements.{All-nil, All-cons, All-contains, All-head, All-tail, Contains-append_right}
use Rattle.std.proofs.lemmas.Slice.Eq.{bytes_eq-Decides}
use Rattle.serde_json.specs.Data.{Members, member, no_members}
use Rattle.serde_json.specs.Find.{as_object}
use Rattle.theory_definitions.specs.Instance.{Subject, Text, a_name, a_value, member_of}
use Rattle.theory_definitions.specs.Keywords.{Answer, Answers, Marked, Mode, Question, Turn, ask, done, ecma, for_all, for_first, for_units, for_verdict, mark, match_text, unmark, is_spanned}
use Rattle.theory_definitions.specs.Laws.{AsksRightly, IsPresent, IsRight, answer_in, first_fault, steps_below}
use Rattle.theory_definitions.specs.Matching.{Matching}
use Rattle.theory_definitions.specs.Reports.{Unit_}
use Rattle.theory_definitions.specs.Turns.{FunctionLaws, Standing, TurnLaws, next, reply_to, step_at}
use Rattle.keyword_authoring.specs.declared.run.Progress.{Progress}
use Rattle.keyword_authoring.specs.Items.{child_at_item, first_at_item, item_count}
use Rattle.keyword_authoring.specs.Members.{at_name, names_in, names_of_any, only_if, subject_names}
use Rattle.keyword_authoring.specs.Places.{each_named, each_present, item_present, names_present, some_members_present}
use Rattle.keyword_authoring.specs.Somes.{somes}
use Rattle.keyword_authoring.specs.WayLaws.{AllPresent, SameQuestions, function_laws, turn_laws}
use Rattle.keyword_authoring.specs.WayRuns.{fits_at}
use Rattle.keyword_authoring.specs.WayWords.{any_state, left_at_most, nothing_absorbed, run_ends, run_fits, run_replies, words_of}
use Rattle.keyword_authoring.specs.Ways.{Way, passes_on, passes_some, places, questions, way_faults, way_holds, way_turn, way_units}
use Rattle.schema_applicators.specs.Laws as applicators
use Rattle.standard_basics.specs.declared.names.NamesRun.{NamesRun}
use Rattle.standard_basics.specs.BasicShape.{BasicShape, applies, has_count, has_items, has_pattern, has_prefix_items, has_properties, has_property_names, has_type, has_types, requires}
use Rattle.standard_basics.specs.Counts.{subject_string}
use Rattle.standard_basics.specs.Words.{any_run, ends_in, fits_in, has_name, held_way, is_named, name_asked, names_held, pattern_way, run_way, seen, turns_left, way, words}

-- The basic keywords absorb no other keyword.
abbrev pub none_absorbed : BasicShape → List Text
none_absorbed m = []

same_asked : (texts : Bool) (pattern : Text) (s : Subject) (o : Option Text)
    → (questions (pattern_way texts pattern s o) ≡ questions (pattern_way false pattern s o)) × (places (pattern_way texts pattern s o) ≡ places (pattern_way false pattern s o))
same_asked texts pattern s None = (refl, refl)
same_asked texts pattern s (Some text) = (refl, refl)

-- ---- the names that a run holds

-- If a member has the name, then the child is evaluated at that name.
named_asked : (k : Text) (ms : Members) → is_some (member_of k ms) ≡ true → Contains (map at_name (names_in ms)) (at_name k)
named_asked k no_members h = cc
named_asked k (member l d ms) h = at (bytes_eq k l) refl h (named_asked k ms)
  where
    at : (b : Bool) → bytes_eq k l ≡ b → is_some (if b then Some d else member_of k ms) ≡ true
        → (is_some (member_of k ms) ≡ true → Contains (map at_name (names_in ms)) (at_name k)) → Contains (map at_name (names_in (member l d ms))) (at_name k)
    at true e h later = (zero, omega arith, ap at_name (sym ((bytes_eq-Decides k l).0 e)))
    at false e h later = Contains-append_right (at_name l ∷ []) (map at_name (names_in ms)) (at_name k) (later h)

any_asked : (k : Text) (o : Option Members) → is_named k o ≡ true → Contains (map at_name (names_of_any o)) (at_name k)
any_asked k None h = cc
any_asked k (Some ms) h = named_asked k ms h

has_asked : (k : Text) (s : Subject) → has_name k s ≡ true → Contains (map at_name (subject_names s)) (at_name k)
has_asked k (a_name n) h = cc
has_asked k (a_value d) h = any_asked k (as_object d) h

-- Whatever names a run holds, it evaluates its child only at names of members.
asked_known : (s : Subject) (ks : List Text) → All (Contains (map at_name (subject_names s))) (somes (map (name_asked s) ks))
asked_known s [] = All-nil _
asked_known s (k ∷ ks) = at (has_name k s) refl (asked_known s ks)
  where
    at : (b : Bool) → has_name k s ≡ b → All (Contains (map at_name (subject_names s))) (somes (map (name_asked s) ks))
        → All (Contains (map at_name (subject_names s))) (somes (only_if b (at_name k) ∷ map (name_asked s) ks))
    at true e later = All-cons (Contains (map at_name (subject_names s))) (at_name k) (somes (map (name_asked s) ks)) (has_asked k s e) later
    at false e later = later

-- If each name is a member's, then the child is evaluated at all of them.
all_asked : (s : Subject) (ks : List Text) → All (λ k. has_name k s ≡ true) ks → somes (map (name_asked s) ks) ≡ map at_name ks
all_asked s [] h = refl
all_asked s (k ∷ ks) h = ap (λ b. somes (only_if b (at_name k) ∷ map (name_asked s) ks)) (All-head (λ k. has_name k s ≡ true) k ks h)
    ∙ ap (λ qs. at_name k ∷ qs) (all_asked s ks (All-tail (λ k. has_name k s ≡ true) k ks h))

any_named : (o : Option Members) → All (λ k. is_named k o ≡ true) (names_of_any o)
any_named None = All-nil _
any_named (Some ms) = each_named ms

all_named : (s : Subject) → All (λ k. has_name k s ≡ true) (subject_names s)
all_named (a_name n) = All-nil _
all_named (a_value d) = any_named (as_object d)

asks_names : (s : Subject) → somes (map (name_asked s) (subject_names s)) ≡ map at_name (subject_names s)
asks_names s = all_asked s (subject_names s) (all_named s)

-- ---- the laws of the runs

same_held : SameQuestions run_way
same_held texts (has_type t, ks) s = (refl, refl)
same_held texts (has_types ts, ks) s = (refl, refl)
same_held texts (requires ns, ks) s = (refl, refl)
same_held texts (has_properties ns, ks) s = (refl, refl)
same_held texts (has_count kind n, ks) s = (refl, refl)
same_held texts (has_pattern pattern, ks) s = same_asked texts pattern s (subject_string s)
same_held texts (has_prefix_items n, ks) s = (refl, refl)
same_held texts (has_items n, ks) s = (refl, refl)
same_held texts (has_property_names, ks) s = (refl, refl)
same_held texts (applies a, ks) s = applicators.same_questions texts a s

-- a keyword that is evaluated alike whatever names its run holds
abbrev pub HoldsNothing : BasicShape → Type 0
HoldsNothing m = (texts : Bool) (ks : List Text) (s : Subject) → held_way texts ks m s ≡ way texts m s

-- A keyword is `propertyNames`, or the names that its run holds do not matter.
by_names : (P : BasicShape → Type 0) → P has_property_names → ((m : BasicShape) → HoldsNothing m → P m) → (m : BasicShape) → P m
by_names P names other (has_type t) = other (has_type t) (λ texts ks s. refl)
by_names P names other (has_types ts) = other (has_types ts) (λ texts ks s. refl)
by_names P names other (requires ns) = other (requires ns) (λ texts ks s. refl)
by_names P names other (has_properties ns) = other (has_properties ns) (λ texts ks s. refl)
by_names P names other (has_count kind n) = other (has_count kind n) (λ texts ks s. refl)
by_names P names other (has_pattern pattern) = other (has_pattern pattern) (λ texts ks s. refl)
by_names P names other (has_prefix_items n) = other (has_prefix_items n) (λ texts ks s. refl)
by_names P names other (has_items n) = other (has_items n) (λ texts ks s. refl)
by_names P names other has_property_names = names
by_names P names other (applies a) = other (applies a) (λ texts ks s. refl)

-- A run asks only questions that the keyword may ask.
may_ask_held : (texts : Bool) (m : BasicShape) (ks : List Text) (s : Subject) (q : Question) → Contains (questions (held_way texts ks m s)) q → Contains (questions (way texts m s)) q
may_ask_held texts m ks s q = by_names (λ m. Contains (questions (held_way texts ks m s)) q → Contains (questions (way texts m s)) q)
    (λ h. All-contains (Contains (map at_name (subject_names s))) (somes (map (name_asked s) ks)) q (asked_known s ks) h)
    (λ m same. subst (λ w. Contains (questions w) q) (same texts ks s)) m

-- Two ways have the same meaning.
record MeansSame (v w : Way) : Type 0 where
  places_same : places v ≡ places w
  holds_same : (matches : Matching) (accepts : Question → Bool) → way_holds v matches accepts ≡ way_holds w matches accepts
  faults_same : (matches : Matching) (a : Answers) → way_faults v matches a ≡ way_faults w matches a
  units_same : (matches : Matching) (u : Question → Unit_) → way_units v matches u ≡ way_units w matches u

means_itself : (v w : Way) → v ≡ w → MeansSame v w
means_itself v w e = record {
  places_same = ap places e;
  holds_same = λ matches accepts. ap (λ x. way_holds x matches accepts) e;
  faults_same = λ matches a. ap (λ x. way_faults x matches a) e;
  units_same = λ matches u. ap (λ x. way_units x matches u) e;
}

names_mean : (s : Subject) → MeansSame (passes_some (map (name_asked s) (subject_names s))) (passes_on (map at_name (subject_names s)))
names_mean s = record {
  places_same = length-map (subject_names s) (name_asked s) ∙ sym (length-map (subject_names s) at_name);
  holds_same = λ matches accepts. ap (λ qs. way_holds (passes_on qs) matches accepts) (asks_names s);
  faults_same = λ matches a. ap (λ qs. way_faults (passes_on qs) matches a) (asks_names s);
  units_same = λ matches u. ap (λ qs. way_units (passes_on qs) matches u) (asks_names s);
}

-- A run begins with the names that give it the keyword's own meaning.
begins_meant : (texts : Bool) (m : BasicShape) (s : Subject) → MeansSame (held_way texts (names_held m s) m s) (way texts m s)
begins_meant texts m s = by_names (λ m. MeansSame (held_way texts (names_held m s) m s) (way texts m s))
    (names_mean s)
    (λ m same. means_itself (held_way texts (names_held m s) m s) (way texts m s) (same texts (names_held m s) s)) m

asks_right : (texts : Bool) (m : BasicShape) (ks : List Text) (s : Subject) (t : Turn) → AsksRightly (words_of run_way texts) (m, ks) s [] t → AsksRightly (words texts) m s [] t
asks_right texts m ks s (ask q mode') h = may_ask_held texts m ks s q h
asks_right texts m ks s (match_text a point) h = h
asks_right texts m ks s (mark i) h = tt
asks_right texts m ks s unmark h = tt
asks_right texts m ks s (ecma text) h = tt
asks_right texts m ks s (is_spanned step) h = tt
asks_right texts m ks s done h = tt

is_right : (texts : Bool) (m : BasicShape) (s : Subject) (matches : Matching) (a : Answers) (u : Question → Unit_) (same : Marked → Marked → Bool) (mode' : Mode) (answer : Answer)
    → IsRight (words_of run_way texts) (m, names_held m s) s matches a u same mode' answer → IsRight (words texts) m s matches a u same mode' answer
is_right texts m s matches a u same for_verdict answer h = h ∙ (begins_meant texts m s).holds_same matches (λ q. (a q).verdict)
is_right texts m s matches a u same for_first answer h = h ∙ ap first_fault ((begins_meant texts m s).faults_same matches a)
is_right texts m s matches a u same for_all answer h = h ∙ (begins_meant texts m s).faults_same matches a
is_right texts m s matches a u same for_units answer h = (h.0 ∙ (begins_meant texts m s).units_same matches u, h.1 ∙ (begins_meant texts m s).holds_same matches (λ q. (a q).verdict))

same_answer : (texts : Bool) (m : BasicShape) (ks : List Text) (x : Standing (NamesRun × Answer)) (mode' : Mode) (q : Question)
    → answer_in (words_of run_way texts) (m, ks) x.subject x.matches x.answers x.unit_at x.same mode' q ≡ answer_in (words texts) m x.subject x.matches x.answers x.unit_at x.same mode' q
same_answer texts m ks x for_verdict q = refl
same_answer texts m ks x for_first q = refl
same_answer texts m ks x for_all q = refl
same_answer texts m ks x for_units q = refl

-- A turn gets the same reply either way.
same_reply : (texts : Bool) (m : BasicShape) (ks : List Text) (x : Standing (NamesRun × Answer)) (t : Turn)
    → reply_to (words_of run_way texts) (m, ks) x.subject x.matches x.answers x.unit_at x.same x.marks t ≡ reply_to (words texts) m x.subject x.matches x.answers x.unit_at x.same x.marks t
same_reply texts m ks x (ask q mode') = same_answer texts m ks x mode' q
same_reply texts m ks x (match_text a point) = refl
same_reply texts m ks x (mark i) = refl
same_reply texts m ks x unmark = refl
same_reply texts m ks x (ecma text) = refl
same_reply texts m ks x (is_spanned step) = refl
same_reply texts m ks x done = refl

-- The laws hold for the runs that hold these names.
held_laws : (texts : Bool) (m : BasicShape) (ks : List Text)
    → TurnLaws (words_of run_way texts) (m, ks) (nothing_absorbed run_way (m, ks)) (left_at_most run_way (m, ks)) (any_state run_way (m, ks)) (run_ends run_way texts (m, ks)) (run_fits run_way texts (m, ks))
held_laws texts m ks = turn_laws run_way same_held texts (m, ks)

fewer : (a b c : ℕ) → b ≡ c → a < b + 2 → a < c + 2
fewer a b c e h = omega arith

keeps : (texts : Bool) (m : BasicShape) (x : Standing (NamesRun × Answer)) → fits_in texts m x → (step_at (words texts) m x ≡ done → ⊥)
    → fits_in texts m (next (words texts) m x) × (ends_in texts m (next (words texts) m x) ≡ ends_in texts m x)
keeps texts m x fits h =
    let kept = (held_laws texts m x.state.0.names).keeps (seen x) fits h in
    let w : Way = run_way texts (m, x.state.0.names) x.subject in
    let after : Progress × Answer = way_turn w (x.state.0.progress, x.state.1) x.reply in
    (subst (λ r. fits_at w (run_replies (seen x)) after.0.mode after.0.stage r) (same_reply texts m x.state.0.names x (step_at (words texts) m x)) kept.0, kept.1)

pub turns_keep : (texts : Bool) (m : BasicShape) → TurnLaws (words texts) m (none_absorbed m) (turns_left m) (any_run texts m) (ends_in texts m) (fits_in texts m)
turns_keep texts m = record {
  bounded = λ s mode'. fewer _ _ _ (begins_meant texts m s).places_same ((held_laws texts m (names_held m s)).bounded s mode');
  starts = λ s mode'. tt;
  goes_on = λ s r reply can. tt;
  falls = λ s r reply can. (held_laws texts m r.0.names).falls s (r.0.progress, r.1) reply tt;
  asks = λ s r reply can. asks_right texts m r.0.names s ((words texts).step m s r reply) ((held_laws texts m r.0.names).asks s (r.0.progress, r.1) reply tt);
  begins = λ s mode' matches a u same agrees valid alike.
      let begun = (held_laws texts m (names_held m s)).begins s mode' matches a u same agrees valid alike in
      (begun.0, is_right texts m s matches a u same mode' _ begun.1);
  keeps = keeps texts m;
  stands = λ x fits h. (held_laws texts m x.state.0.names).stands (seen x) fits h;
}

pattern_present : (texts : Bool) (pattern : Text) (s : Subject) (o : Option Text) → All (λ q. IsPresent s (steps_below q.below)) (questions (pattern_way texts pattern s o))
pattern_present texts pattern s None = All-nil _
pattern_present texts pattern s (Some text) = All-nil _

present : AllPresent way
present texts (has_type t) s = All-nil _
present texts (has_types ts) s = All-nil _
present texts (requires ks) s = All-nil _
present texts (has_properties ks) s = some_members_present 0 ks s
present texts (has_count kind n) s = All-nil _
present texts (has_pattern pattern) s = pattern_present texts pattern s (subject_string s)
present texts (has_prefix_items n) s = each_present child_at_item s 0 (min n (item_count s)) (λ k h. item_present s (0 + k) (omega arith))
present texts (has_items n) s = each_present first_at_item s n (item_count s - n) (λ k h. item_present s (n + k) (omega arith))
present texts has_property_names s = names_present s
present texts (applies a) s = applicators.present texts a s

pub functions_keep : (texts : Bool) (m : BasicShape) → FunctionLaws (words texts) m (none_absorbed m)
functions_keep texts m = let laws : FunctionLaws (words_of way texts) m (nothing_absorbed way m) = function_laws way present texts m in record {
  present = laws.present;
  agree = laws.agree;
  units_valid = laws.units_valid;
  holds_reads = laws.holds_reads;
  faults_read = laws.faults_read;
  units_read = laws.units_read;
  spans_read = laws.spans_read;
  spans_stand = laws.spans_stand;
  told_spans = laws.told_spans;
  stands = laws.stands;
  passes = laws.passes;
}
