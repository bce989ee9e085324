-- The verdict of an entry that needs no questions.
use Rattle.std.specs.Prelude.{Bool, List, None, Option, Some, [], drop, take, ℕ, ◌≡◌}
use Rattle.theory_definitions.specs.Guarded.{Children, node_keyword}
use Rattle.theory_definitions.specs.Instance.{Subject}
use Rattle.theory_definitions.specs.Keywords.{Keywords}
use Rattle.schema_traits.specs.AtOnce.{EndsAtOnce}
use Rattle.schema_traits.specs.KeywordViews.{Tells as MayTell}
use Rattle.schema_node_table.specs.NodeViews.{form_of}
use Rattle.schema_node_table.specs.declared.node.Entry.{Entry}

-- the entry's keyword has this verdict on the subject, in each reading in which its texts are
-- covered
pub record TellsAtOnce {C K R : Type 0} (words : Bool → Keywords K R) (is_whole : K → Bool) (shape : C → K) (s : Subject) (e : Entry C) (valid : Bool) : Type 0 where
  pub keyword : C
  pub children : Children
  pub is : form_of e.form ≡ node_keyword keyword children
  pub at_once : (texts : Bool) → MayTell texts (is_whole (shape keyword)) s → EndsAtOnce (words texts) (shape keyword) s valid

-- the entry that waits to be evaluated, if there is one: the one with this number
abbrev pub waiting : {A : Type 0} → Option ℕ → List A → List A
waiting None es = []
waiting (Some k) es = take 1 (drop k es)
