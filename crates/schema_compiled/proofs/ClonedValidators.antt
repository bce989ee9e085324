-- Validators of which the definitions read the same say the same of every instance, and answer the same.
use Rattle.std.proofs.Common.{◌≡◌, ℕ, ◌≤◌, Bool, true, false, [], length, refl, sym, ap, subst}
use Rattle.std.specs.Prelude.{None, ◌↔◌}
use Rattle.serde_json.specs.Data.{Data}
use Rattle.serde_json.specs.Written.{has_float}
use Rattle.theory_definitions.specs.Cover.{Sense, branch_at, evaluate, is_valid}
use Rattle.theory_meaning.specs.Fractions.{AreWhole}
use Rattle.theory_definitions.specs.Guarded.{Nodes, guarded_sense, guarded_units}
use Rattle.theory_meaning.specs.Headline.{VerdictSays}
use Rattle.theory_definitions.specs.Matching.{Completion, Matcher}
use Rattle.theory_meaning.specs.Means as means
use Rattle.theory_meaning.specs.Numbered.{subject_in}
use Rattle.schema_reports.specs.UnitViews.{unit_of}
use Rattle.schema_reports.specs.declared.evaluation.EvaluationNode.{EvaluationNode}
use Rattle.schema_node_table.specs.NodeTable.{numbered}
use Rattle.schema_traits.specs.declared.keyword.Validate.{Ghosts as KeywordMembers}
use Rattle.schema_traits.specs.declared.matcher.Matcher.{Ghosts as MatcherMembers}
use Rattle.schema_compiled.specs.Cloned.{AnswerSame, SaySame}
use Rattle.schema_compiled.specs.Evaluated.{EvaluationAnswered}
use Rattle.schema_compiled.specs.Program.{Program}
use Rattle.schema_compiled.specs.Spoken.{ErrorsAnswered, FirstAnswered}

both : {A : Type 0} (P : A → Type 0) (x y : A) → x ≡ y → P x ↔ P y
both P x y e = (subst P e, subst P (sym e))

-- what the definitions read of a validator: its nodes, how many there are, the number of the root's, its matcher, and its limit of runs
abbrev Read : Type 0 → Type 0
Read K = Nodes K × ℕ × ℕ × Matcher × ℕ

read_alike : {K : Type 0} (a a' : Nodes K) (b b' c c' : ℕ) (d d' : Matcher) (e e' : ℕ) → a ≡ a' → b ≡ b' → c ≡ c' → d ≡ d' → e ≡ e' → let x : Read K = (a, b, c, d, e) in let y : Read K = (a', b', c', d', e') in x ≡ y
read_alike a a' b b' c c' d d' e e' p q r s t = rw (p, q, r, s, t) refl

module _ {C Run K M : Type 0} (keywords : KeywordMembers C Run K) (matchers : MatcherMembers M) where
  abbrev Speaks : Data → Bool → Read K → Type 0
  Speaks instance texts t = texts ≡ true → (has_float instance ≡ false) × AreWhole keywords.is_whole t.0 t.1

  abbrev FromDepth : Data → (ℕ → Bool → Sense → Type 0) → Read K → Type 0
  FromDepth instance fact t = (texts : Bool) → Speaks instance texts t → means.FromSomeDepth (keywords.words texts) t.3 t.0 t.2 instance (fact t.4 texts)

  abbrev HasUnits : Data → EvaluationNode → Read K → Type 0
  HasUnits instance u t = (texts : Bool) → Speaks instance texts t → (deep : ℕ) × ((n : ℕ) → deep ≤ n
      → branch_at (guarded_sense (keywords.words texts) t.3 t.0 (subject_in instance) n t.2) evaluate [] ≡ None
      → (c : Completion) → unit_of texts u ≡ guarded_units (keywords.words texts) t.3 t.0 (subject_in instance) c n t.2 [] [] [])

  abbrev read_of : Program C M → Read K
  read_of p = (numbered keywords.shape p.nodes, length p.nodes, p.root, matchers.matching p.matcher, p.runs)

  module _ (p p' : Program C M) (nodes : numbered keywords.shape p.nodes ≡ numbered keywords.shape p'.nodes) (count : length p.nodes ≡ length p'.nodes) (root : p.root ≡ p'.root) (matcher : matchers.matching p.matcher ≡ matchers.matching p'.matcher) (runs : p.runs ≡ p'.runs) (work : p.work ≡ p'.work) (depth : p.depth ≡ p'.depth) where
    same : read_of p ≡ read_of p'
    same = read_alike _ _ _ _ _ _ _ _ _ _ nodes count root matcher runs

    pub say_same : SaySame keywords matchers p p'
    say_same = record {
      runs = runs;
      work = work;
      depth = depth;
      speaks = λ instance texts. both (Speaks instance texts) (read_of p) (read_of p') same;
      senses = λ instance texts n. ap (λ (t : Read K). guarded_sense (keywords.words texts) t.3 t.0 (subject_in instance) n t.2) same;
      units = λ instance texts n c. ap (λ (t : Read K). guarded_units (keywords.words texts) t.3 t.0 (subject_in instance) c n t.2 [] [] []) same;
    }

    pub answer_same : AnswerSame keywords matchers p p'
    answer_same = record {
      verdict = λ instance valid. both (FromDepth instance (λ most texts v. VerdictSays v most is_valid valid)) (read_of p) (read_of p') same;
      first = λ instance o. both (FromDepth instance (λ most texts v. FirstAnswered v most texts o)) (read_of p) (read_of p') same;
      errors = λ instance es. both (FromDepth instance (λ most texts v. ErrorsAnswered v most texts es)) (read_of p) (read_of p') same;
      evaluation = λ instance u. both (FromDepth instance (λ most texts v. EvaluationAnswered v most texts u)) (read_of p) (read_of p') same;
      units = λ instance u. both (HasUnits instance u) (read_of p) (read_of p') same;
    }
