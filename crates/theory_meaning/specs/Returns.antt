-- A return is a chain of questions that comes twice to the same target at the same place. The
-- standard assigns a schema no meaning in that case. (Core 2020-12, 9.4.1, guarding against
-- infinite recursion)
use Rattle.std.specs.List.{list_any}
use Rattle.std.specs.Prelude.{Bool, Contains, List, None, Some, [], false, filter_map, flat_map, option_map, suc, true, zero, ℕ, ◌&&◌, ◌++◌, ◌||◌, ◌∷◌, ◌≡◌}
use Rattle.serde_json.specs.Data.{Data}
use Rattle.theory_definitions.specs.Instance.{Place, Text, same_place}
use Rattle.theory_definitions.specs.Parts.{Parts}
use Rattle.theory_definitions.specs.Plan.{Form, Key, always, child, keyword, never, plan, reference, reference_edge, same_target, these}
use Rattle.theory_definitions.specs.Meaning.{place_below, subject}

module _ {S K R : Type 0} (w : Parts S K R) (instance : Data) where
  -- A question: a key, an evaluation path and a place.
  pub record Asked : Type 0 where
    pub key : Key S
    pub path : Text
    pub place : Place

  -- The questions that one keyword or reference of a plan may ask.
  abbrev pub part_questions : Asked → Text → Form K → List Asked
  part_questions a name (keyword m requests absorbed) = filter_map (λ q. option_map (λ edge. record { key = edge.key; path = a.path ++ edge.path; place = place_below a.place q.below }) (child w a.key name requests q.child)) (w.keywords.may_ask m (subject w instance a.place))
  part_questions a name (reference kind text) = elim (reference_edge w a.key name kind text) [ None ↦ [] | Some edge ↦ record { key = edge.key; path = a.path ++ edge.path; place = a.place } ∷ [] ]

  -- The questions that a key at a place may ask.
  abbrev pub questions : Asked → List Asked
  questions a = elim (plan w a.key) [ always ↦ [] | never ↦ [] | these xs ↦ flat_map (λ x. part_questions a x.name x.form) xs ]

  -- A chain of questions leads from the first to the second.
  pub data LeadsTo : Asked → Asked → Type 0 where
    stays : {a : Asked} → LeadsTo a a
    asks : {a b d : Asked} → Contains (questions a) b → LeadsTo b d → LeadsTo a d

  -- Two questions have the same target and the same place.
  abbrev pub same_question : Asked → Asked → Bool
  same_question a b = same_target w a.key.target b.key.target && same_place a.place b.place

  -- A chain of questions from the root comes twice to the same target at the same place.
  pub record Return (root : Asked) : Type 0 where
    pub met : Asked
    pub next : Asked
    pub again : Asked
    pub reaches : LeadsTo root met
    pub goes_on : Contains (questions met) next
    pub comes_back : LeadsTo next again
    pub same : same_question met again ≡ true

  -- Whether a chain of at most n questions comes twice to the same target at the same place; `seen`
  -- contains the questions before it.
  abbrev pub returns : ℕ → List Asked → Asked → Bool
  returns zero seen a = false
  returns (suc n) seen a = list_any (same_question a) seen || list_any (returns n (a ∷ seen)) (questions a)
