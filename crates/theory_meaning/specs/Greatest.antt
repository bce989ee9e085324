-- The largest set of pairs of a target and a place in which each pair accepts, given that exactly
-- the pairs of the set accept.
use Rattle.std.specs.List.{list_all}
use Rattle.std.specs.Prelude.{Bool, None, Option, Some, false, true, ◌≡◌}
use Rattle.serde_json.specs.Data.{Data}
use Rattle.theory_definitions.specs.Instance.{Place, Subject}
use Rattle.theory_definitions.specs.Matching.{Completion, Matching, matching}
use Rattle.theory_definitions.specs.Keywords.{Keywords, Question}
use Rattle.theory_definitions.specs.Parts.{Parts}
use Rattle.theory_definitions.specs.Plan.{Edge, Key, Part, always, child, keyword, never, plan, reference, reference_edge, these}
use Rattle.theory_definitions.specs.Meaning.{place_below, subject}

module _ {S K R : Type 0} (w : Parts S K R) (instance : Data) (c : Completion) where
  -- ---- sets of pairs

  -- A set of pairs of a key and a place.
  abbrev pub Pairs : Type 0
  Pairs = Key S → Place → Bool

  -- The edge's pair is in the set, or there is no edge.
  abbrev pub in_set : Pairs → Option (Edge S) → Place → Bool
  in_set accepts None p = true
  in_set accepts (Some edge) p = accepts edge.key p

  -- Whether a part of a plan accepts, given that exactly the pairs of the set accept.
  abbrev pub part_accepts : Pairs → Key S → Place → Part K → Bool
  part_accepts accepts k p x = elim x.form [
    | keyword m requests absorbed ↦ w.keywords.holds m (subject w instance p) (matching w.matcher c) (λ q. in_set accepts (child w k x.name requests q.child) (place_below p q.below))
    | reference kind text ↦ in_set accepts (reference_edge w k x.name kind text) p
  ]

  -- Whether a key accepts at a place, given that exactly the pairs of the set accept.
  abbrev pub accepts_by : Pairs → Key S → Place → Bool
  accepts_by accepts k p = elim (plan w k) [ always ↦ true | never ↦ false | these xs ↦ list_all (part_accepts accepts k p) xs ]

  -- Each pair of the set accepts, given that exactly the pairs of the set accept.
  abbrev pub IsSolution : Pairs → Type 0
  IsSolution accepts = (k : Key S) (p : Place) → accepts k p ≡ true → accepts_by accepts k p ≡ true

  -- The pair is in the largest solution, which means that some solution contains it.
  abbrev pub AcceptsGreatest : Key S → Place → Type 0
  AcceptsGreatest k p = (accepts : Pairs) × IsSolution accepts × (accepts k p ≡ true)

-- The keyword is not told what others span, and another yes among the answers never changes a yes of
-- the keyword to a no.
pub record IsMonotone {K R : Type 0} (keywords : Keywords K R) (m : K) : Type 0 where
  pub untold : keywords.is_told m ≡ false
  pub grows : (s : Subject) (matches : Matching) (a b : Question → Bool) → ((q : Question) → a q ≡ true → b q ≡ true) → keywords.holds m s matches a ≡ true → keywords.holds m s matches b ≡ true
