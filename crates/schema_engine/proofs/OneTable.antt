-- All nodes that are compiled from one schema by the same options and the same limit on nested targets have one sense.
use Rattle.std.proofs.Common.{ap, ap₂, arith, length, map, refl, subst, sym, Bool, List, [], ℕ, ◌++◌, ◌∙◌, ◌∷◌, ◌≡◌}
use Rattle.std.specs.Prelude.{All, Some, flat_map, slice_get, slice_index_or}
use Rattle.serde_json.specs.Data.{Data}
use Rattle.theory_definitions.specs.Parts.{Parts}
use Rattle.theory_definitions.specs.Plan.{Key}
use Rattle.theory_meaning.specs.Refusals.{Compiles}
use Rattle.theory_meaning.specs.Fractions.{AreWhole, IsWholeWord, form_words, node_words}
use Rattle.theory_definitions.specs.Guarded.{NodeForm, NodePart, NodePlan, Nodes, guarded_sense, guarded_units}
use Rattle.theory_definitions.specs.Guarded.{node_always, node_keyword, node_never, node_reference, node_these}
use Rattle.theory_definitions.specs.Instance.{Place, Subject}
use Rattle.theory_definitions.specs.Matching.{Assumptions, Matcher, completion_of}
use Rattle.theory_meaning.specs.Numbered.{Ranked, subject_in}
use Rattle.theory_definitions.specs.Reports.{Unit_}
use Rattle.theory_definitions.specs.Runs.{Run}
use Rattle.theory_meaning.proofs.NodeRuns.{runs_say_outcomes}
use Rattle.schema_node_table.specs.NodeTable.{NodeEntry, numbered}
use Rattle.schema_compiler.specs.Agreeing.{AlikeForm, AlikeParts, AlikePlan, AreAlike}
use Rattle.schema_compiler.specs.Compilation.{IsCompilation}
use Rattle.schema_keys.specs.Compiling.{no_keywords, no_matcher}
use Rattle.schema_compiler.specs.Finding.{Course, FindsAll, Standing, WorksOff, at_end, in_a_round, passes_over, standing_of}
use Rattle.schema_compiler.proofs.Courses.{finds_go_on}
use Rattle.schema_compiler.proofs.TablesAgree.{tables_agree}
use Rattle.schema_validator.specs.Called.{IsCompiledFrom}
use Rattle.schema_validator.specs.Compiled.{IsWhole}
use Rattle.schema_validator.specs.Handed.{Handed, Options, parts_of}
use Rattle.schema_compiled.specs.Program.{Program}
use Rattle.schema_engine.specs.FreeCalls.{SpeakAlike}
use Rattle.schema_validator.proofs.Built.{in_map}
use Rattle.schema_validator.proofs.Compilations.{whole_too}
use Rattle.schema_validator.proofs.OtherParts.{compiles_too}
use Rattle.schema_validator.proofs.Reaches.{get_at}
use Rattle.schema_validator.proofs.RootKeys.{one_root_key}

-- ---- the root is found first

module _ {S K R : Type 0} (w : Parts S K R) (nested : ℕ) (root : Key S) where
  -- a list of keys begins with the root's
  abbrev Begins : List (Key S) → Type 0
  Begins keys = slice_get keys 0 ≡ Some root

  longer : (keys more : List (Key S)) → Begins keys → Begins (keys ++ more)
  longer [] more e = absurd (cc e)
  longer (k ∷ keys) more e = e

  works_from_root : {i : ℕ} {c d : Course S} → WorksOff w nested i c d → Begins c.keys → Begins d.keys
  works_from_root (at_end l) e = e
  works_from_root (passes_over l other rest) e = works_from_root rest e
  works_from_root {i} {c} (in_a_round k d at waits finds rest) e =
      let on = finds_go_on w nested finds in
      works_from_root rest (subst (λ keys. Begins keys) (sym on.keys) (longer c.keys on.more e))

  found_first : (keys : List (Key S)) (standings : List Standing) → FindsAll w nested root keys standings → Begins keys
  found_first keys standings f = subst (λ ks. Begins ks) f.2 (works_from_root f.1 refl)

-- ---- so nodes that are compiled from a root are a compilation, in which the root has the first number

module _ {S K R C : Type 0} (w : Parts S K R) (shape : C → K) (nested : ℕ) (root : Key S) (nodes : List (NodeEntry C)) (number : ℕ)
    (compiles : Compiles w root) (c : IsWhole w shape nested root nodes number) where
  abbrev found_keys : List (Key S)
  found_keys = c.compiled.keys

  first : slice_get found_keys 0 ≡ Some root
  first = found_first w nested root found_keys (map standing_of nodes) c.order

  pub compilation : IsCompilation w shape (length found_keys) nested root found_keys nodes
  compilation = record {
    first = first;
    numbers = c.compiled.numbers;
    ranked = subst (Ranked (numbered shape nodes)) c.compiled.lengths c.compiled.ranked;
    filled = c.filled;
    lengths = c.compiled.lengths;
    whole = c.whole;
    sound = λ i k within. c.compiled.reached i (slice_index_or found_keys i k) (get_at found_keys i k within);
    within = omega arith;
    compiles = compiles;
    order = c.order;
    guards = c.guards;
  }

  pub is_first : number ≡ 0
  is_first = c.compiled.numbers.once number 0 root (in_map found_keys number root c.compiled.is_root) (in_map found_keys 0 root first)

-- ---- tables that are alike have the same keywords

module _ {K : Type 0} where
  same_word : (x y : NodeForm K) → AlikeForm x y → form_words x ≡ form_words y
  same_word (node_keyword m es) (node_keyword m' es') a = ap (λ z. z ∷ []) a.0
  same_word (node_reference e) (node_reference e') a = refl
  same_word (node_keyword m es) (node_reference e) a = absurd a
  same_word (node_reference e) (node_keyword m es) a = absurd a

  -- the keywords of some parts
  abbrev words_in : List (NodePart K) → List K
  words_in xs = flat_map (λ x. form_words x.form) xs

  words_of_parts : (xs ys : List (NodePart K)) → AlikeParts xs ys → words_in xs ≡ words_in ys
  words_of_parts [] [] a = refl
  words_of_parts (x ∷ xs) (y ∷ ys) a = ap₂ (λ u v. u ++ v) (same_word x.form y.form a.0.form) (words_of_parts xs ys a.1)
  words_of_parts [] (y ∷ ys) a = absurd a
  words_of_parts (x ∷ xs) [] a = absurd a

  pub same_words : (x y : NodePlan K) → AlikePlan x y → node_words x ≡ node_words y
  same_words node_always node_always a = refl
  same_words node_never node_never a = refl
  same_words (node_these xs) (node_these ys) a = words_of_parts xs ys a
  same_words node_always node_never a = absurd a
  same_words node_always (node_these ys) a = absurd a
  same_words node_never node_always a = absurd a
  same_words node_never (node_these ys) a = absurd a
  same_words (node_these xs) node_always a = absurd a
  same_words (node_these xs) node_never a = absurd a

-- ---- two validators that are compiled from one schema

module _ {S K R C M : Type 0} (h : Handed S K R C M) (options : Options) (schema : Data) (nested : ℕ) (p p' : Program C M)
    (of : IsCompiledFrom h options schema nested p) (of' : IsCompiledFrom h options schema nested p') (texts : Bool) where
  abbrev w0 : Parts S K (Unit {0})
  w0 = parts_of h.resolver h.table no_matcher no_keywords options

  abbrev w : Parts S K R
  w = parts_of h.resolver h.table h.matcher (h.words texts) options

  -- a program's nodes are compiled from a root, whatever matcher and words go with the parts
  from : (root : Key S) (q : Program C M) → IsWhole w0 h.shape nested root q.nodes q.root → IsWhole w h.shape nested root q.nodes q.root
  from root q = whole_too h.resolver h.table no_matcher h.matcher no_keywords (h.words texts) options h.shape nested root q.nodes q.root

  one_root : of'.root ≡ of.root
  one_root = one_root_key w0 schema of'.root of.root of'.is_root of.is_root

  compiles : Compiles w of.root
  compiles = compiles_too h.resolver h.table no_matcher h.matcher no_keywords (h.words texts) options of.root of.compiles

  one : IsWhole w h.shape nested of.root p.nodes p.root
  one = from of.root p of.compiled

  other : IsWhole w h.shape nested of.root p'.nodes p'.root
  other = from of.root p' (subst (λ k. IsWhole w0 h.shape nested k p'.nodes p'.root) one_root of'.compiled)

  -- the tables of nodes
  abbrev table : Nodes K
  table = numbered h.shape p.nodes

  abbrev table' : Nodes K
  table' = numbered h.shape p'.nodes

  -- the keys of the numbers
  abbrev keys : List (Key S)
  keys = one.compiled.keys

  abbrev keys' : List (Key S)
  keys' = other.compiled.keys

  agree : (keys ≡ keys') × (map standing_of p.nodes ≡ map standing_of p'.nodes) × AreAlike w table table'
  agree = tables_agree w h.shape h.shape (length keys) (length keys') nested of.root keys keys' p.nodes p'.nodes
      (compilation w h.shape nested of.root p.nodes p.root compiles one) (compilation w h.shape nested of.root p'.nodes p'.root compiles other)

  as_many : length p'.nodes ≡ length p.nodes
  as_many = other.compiled.lengths ∙ (ap length (sym agree.0) ∙ sym one.compiled.lengths)

  one_number : p.root ≡ p'.root
  one_number = is_first w h.shape nested of.root p.nodes p.root compiles one ∙ sym (is_first w h.shape nested of.root p'.nodes p'.root compiles other)

  whole_alike : AreWhole h.is_whole table (length p.nodes) → AreWhole h.is_whole table' (length p'.nodes)
  whole_alike whole i within =
      let many = as_many in
      let words = same_words (table.entries i) (table'.entries i) (agree.2.entries i) in
      subst (All (IsWholeWord h.is_whole)) words (whole i (omega (arith, within, many)))

  -- the units of a table's node, by a matcher
  abbrev units_by : Matcher → Nodes K → (Place → Subject) → Assumptions → ℕ → ℕ → Unit_
  units_by m nodes subject as' n i = guarded_units (h.words texts) m nodes subject (completion_of as') n i [] [] []

  -- they are those of its run, which is the same in both tables
  units_alike : (subject : Place → Subject) (as' : Assumptions) (n i : ℕ) → units_by h.matcher table subject as' n i ≡ units_by h.matcher table' subject as' n i
  units_alike subject as' n i =
      sym (runs_say_outcomes (h.words texts) h.matcher table subject as' n i [] [] []).1
      ∙ (ap (λ (r : Run). r.units tt) (agree.2.runs subject as' n i [] [] [])
      ∙ (runs_say_outcomes (h.words texts) h.matcher table' subject as' n i [] [] []).1)

  pub speak_alike : (instance : Data) → SpeakAlike h instance texts p p'
  speak_alike instance = record {
    speaks = λ speaks t. ((speaks t).0, whole_alike (speaks t).1);
    senses = λ n.
        let subject = subject_in instance in
        ap (λ (m : Matcher). guarded_sense (h.words texts) m table subject n p.root) of.matcher_is
        ∙ (agree.2.senses subject n p.root
        ∙ (ap (λ i. guarded_sense (h.words texts) h.matcher table' subject n i) one_number
        ∙ ap (λ (m : Matcher). guarded_sense (h.words texts) m table' subject n p'.root) (sym of'.matcher_is)));
    units = λ as' n.
        let subject = subject_in instance in
        ap (λ (m : Matcher). units_by m table subject as' n p.root) of.matcher_is
        ∙ (units_alike subject as' n p.root
        ∙ (ap (λ i. units_by h.matcher table' subject as' n i) one_number
        ∙ ap (λ (m : Matcher). units_by m table' subject as' n p'.root) (sym of'.matcher_is)));
  }
