-- What a number says is also the greatest solution of the targets of the keys that the numbers
-- stand for.
use Rattle.std.proofs.Common.{◌≡◌, ℕ, zero, suc, ◌+◌, ◌<◌, Bool, true, false, ◌&&◌, ◌||◌, List, [], ◌∷◌, length, refl, sym, subst, ◌∙◌, ap, ap₂, arith, true≢false, inl, inr}
use Rattle.std.specs.Prelude.{Contains, Decides, Option, Some, None, ◌⊎◌, ◌↔◌, option_map, slice_get}
use Rattle.std.specs.List.{list_all}
use Rattle.std.proofs.Math.Nat.{eq-or-lt_of_le}
use Rattle.std.proofs.lemmas.Option.{slice_get_within}
use Rattle.serde_json.specs.Data.{Data}
use Rattle.theory_definitions.specs.Instance.{Place, Text}
use Rattle.theory_definitions.specs.Drafts.{Draft, at_path}
use Rattle.theory_definitions.specs.Pointer.{pointer_to}
use Rattle.theory_definitions.specs.Matching.{Completion, matching}
use Rattle.theory_definitions.specs.Making.{Request, compile, refer}
use Rattle.theory_definitions.specs.Keywords.{Below, here}
use Rattle.theory_definitions.specs.Parts.{Parts}
use Rattle.theory_definitions.specs.Plan.{Edge, Key, Target, Part, Form, keyword, reference, Plan, always, never, these, plan, child, requested, reference_edge, same_target, inside, ok_of, schema_at}
use Rattle.theory_definitions.specs.Meaning.{place_below, subject}
use Rattle.theory_definitions.specs.Laws.{EachKeeps}
use Rattle.theory_definitions.specs.Cover.{iter_errors, validate}
use Rattle.theory_definitions.specs.Guarded.{NodeEdge, node_child, NodeForm, node_keyword, node_reference, NodePart, NodePlan, node_always, node_never, node_these, Nodes, guarded_sense}
use Rattle.theory_meaning.specs.Deciding.{none_where_accepted}
use Rattle.theory_meaning.specs.Members.{Follows}
use Rattle.theory_meaning.specs.Shared.{EachAccepts}
use Rattle.theory_meaning.specs.Reach.{Reached, at_first, asked_by, asked_for}
use Rattle.theory_meaning.specs.Numbered.{Numbers, IsNumber, SameEdge, SameForm, SameParts, SamePlan, AreNumbered, Ranked, left}
use Rattle.theory_meaning.specs.Greatest.{accepts_by, in_set, part_accepts}
use Rattle.theory_meaning.specs.Greatest as by_keys
use Rattle.theory_fixed_points.specs.Solutions.{AcceptsEach, AcceptsGreatest, StandsByItself}
use Rattle.theory_fixed_points.specs.NodesSay.{AreMonotone, form_holds, node_holds, IsNodeSolution, NodeAcceptsGreatest}
use Rattle.theory_fixed_points.specs.NumbersSay.{NumbersSayGreatest, LargestStands, KeysAcceptAlike, NumbersAcceptGreatest, GreatestAnswers, FinishingAnswers, PlainIsGreatest}
use Rattle.theory_definitions.proofs.Products.{both_left, both_right, both_true, in_either, or_left, or_right}
use Rattle.theory_meaning.proofs.Finishing.{nodes_decide}
use Rattle.theory_meaning.proofs.GuardedSense.{all_nodes_follow}
use Rattle.theory_meaning.proofs.Reading.{Reads, reads_of}
use Rattle.theory_meaning.proofs.SameRun.{same_key_is}
use Rattle.theory_meaning.proofs.SensesMeant.{numbers_mean}
use Rattle.theory_meaning.proofs.Sentences.{listed_none}
use Rattle.theory_meaning.proofs.Simulates.{target_itself}
use Rattle.theory_fixed_points.proofs.Edges.{Leads, edges_lead}
use Rattle.theory_fixed_points.proofs.NodesSay.{Rests, Says, accepted_says, node_more, word_monotone, Verdict, is_solution, nodes_say_greatest}

-- ---- a key accepts the same as each key with its target

abbrev key_at : {S : Type 0} → Target S → Key S
key_at t = record { target = t; location = []; base = []; start = 0 }

module _ {S K R : Type 0} (w : Parts S K R) (instance : Data) (c : Completion) (accepts : Target S → Place → Bool) where
  -- The set as one of keys.
  abbrev of_keys : Key S → Place → Bool
  of_keys l q = accepts l.target q

  module _ (k : Key S) where
    subschema_by_target : (path : Place) (draft : Draft) (p : Place) (o : Option S)
        → in_set w instance c of_keys (option_map (λ state. record { key = inside w k path state draft; path = pointer_to path; is_reference = false; is_recursive = false }) o) p
        ≡ in_set w instance c of_keys (option_map (λ state. record { key = inside w (key_at k.target) path state draft; path = pointer_to path; is_reference = false; is_recursive = false }) o) p
    subschema_by_target path draft p None = refl
    subschema_by_target path draft p (Some state) = refl

    child_by_target : (name : Text) (requests : List Request) (i : ℕ) (p : Place) → in_set w instance c of_keys (child w k name requests i) p ≡ in_set w instance c of_keys (child w (key_at k.target) name requests i) p
    child_by_target name requests i p = go (slice_get requests i)
      where
        by_request : (r : Request) → in_set w instance c of_keys (requested w k name r) p ≡ in_set w instance c of_keys (requested w (key_at k.target) name r) p
        by_request (refer text) = refl
        by_request (compile path) =
            let draft : Draft = w.resolver.detect k.target.draft (schema_at w (at_path k.target.place path)) in
            subschema_by_target path draft p (ok_of (w.resolver.in_subresource k.target.state draft (at_path k.target.place path)))

        go : (o : Option Request)
            → in_set w instance c of_keys (elim o [ None ↦ None | Some r ↦ requested w k name r ]) p ≡ in_set w instance c of_keys (elim o [ None ↦ None | Some r ↦ requested w (key_at k.target) name r ]) p
        go None = refl
        go (Some r) = by_request r

    part_by_target : (p : Place) (x : Part K) → part_accepts w instance c of_keys k p x ≡ part_accepts w instance c of_keys (key_at k.target) p x
    part_by_target p x = go x.form
      where
        go : (y : Form K) → ◌≡◌ {A = Bool} (elim y [
          | keyword m requests absorbed ↦ w.keywords.holds m (subject w instance p) (matching w.matcher c) (λ q. in_set w instance c of_keys (child w k x.name requests q.child) (place_below p q.below))
          | reference kind text ↦ in_set w instance c of_keys (reference_edge w k x.name kind text) p
        ]) (elim y [
          | keyword m requests absorbed ↦ w.keywords.holds m (subject w instance p) (matching w.matcher c) (λ q. in_set w instance c of_keys (child w (key_at k.target) x.name requests q.child) (place_below p q.below))
          | reference kind text ↦ in_set w instance c of_keys (reference_edge w (key_at k.target) x.name kind text) p
        ])
        go (keyword m requests absorbed) = λ j. w.keywords.holds m (subject w instance p) (matching w.matcher c) (λ q. child_by_target x.name requests q.child (place_below p q.below) j)
        go (reference kind text) = refl

    parts_by_target : (p : Place) (xs : List (Part K)) → list_all (part_accepts w instance c of_keys k p) xs ≡ list_all (part_accepts w instance c of_keys (key_at k.target) p) xs
    parts_by_target p [] = refl
    parts_by_target p (x ∷ xs) = ap₂ (λ a b. a && b) (part_by_target p x) (parts_by_target p xs)

    accepts_by_target : (p : Place) → accepts_by w instance c of_keys k p ≡ accepts_by w instance c of_keys (key_at k.target) p
    accepts_by_target p = go (plan w k)
      where
        go : (o : Plan K) → ◌≡◌ {A = Bool} (elim o [ always ↦ true | never ↦ false | these xs ↦ list_all (part_accepts w instance c of_keys k p) xs ])
            (elim o [ always ↦ true | never ↦ false | these xs ↦ list_all (part_accepts w instance c of_keys (key_at k.target) p) xs ])
        go always = refl
        go never = refl
        go (these xs) = parts_by_target p xs

  pub one_target_accepts : (k l : Key S) → k.target ≡ l.target → (p : Place) → accepts_by w instance c of_keys k p ≡ accepts_by w instance c of_keys l p
  one_target_accepts k l same p = accepts_by_target k p ∙ (ap (λ t. accepts_by w instance c of_keys (key_at t) p) same ∙ sym (accepts_by_target l p))

-- ---- a number holds if and only if its key accepts, with sets that agree on numbers and targets

module _ {S K R : Type 0} (w : Parts S K R) (instance : Data) (c : Completion) (keys : Numbers S) (nodes : Nodes K) (of_numbers : ℕ → Place → Bool) (of_keys : Key S → Place → Bool)
    (agree : (i : ℕ) (k : Key S) → IsNumber keys i k → (p : Place) → of_numbers i p ≡ of_keys k p) (k : Key S) (p : Place) where
  abbrev by_edges : NodeEdge → Below → Bool
  by_edges e b = of_numbers e.node (place_below p b)

  edge_same : (o : Option NodeEdge) (u : Option (Edge S)) (b : Below) → SameEdge w keys nodes o u
      → (elim o [ None ↦ true | Some e ↦ by_edges e b ]) ≡ in_set w instance c of_keys u (place_below p b)
  edge_same None None b s = refl
  edge_same (Some e) (Some edge) b s = agree e.node edge.key s.0 (place_below p b)
  edge_same None (Some edge) b s = absurd s
  edge_same (Some e) None b s = absurd s

  form_same : (name : Text) (x : NodeForm K) (y : Form K) → SameForm w keys nodes k name x y → form_holds w.keywords w.matcher nodes (subject w instance) c p by_edges x ≡ (elim y [
    | keyword m requests absorbed ↦ w.keywords.holds m (subject w instance p) (matching w.matcher c) (λ q. in_set w instance c of_keys (child w k name requests q.child) (place_below p q.below))
    | reference kind text ↦ in_set w instance c of_keys (reference_edge w k name kind text) p
  ])
  form_same name (node_keyword m es) (keyword m' requests absorbed) s = λ j. w.keywords.holds (s.0 j) (subject w instance p) (matching w.matcher c) (λ q. edge_same (node_child es q.child) (child w k name requests q.child) q.below (s.1 q.child) j)
  form_same name (node_reference e) (reference kind text) s = edge_same (Some e) (reference_edge w k name kind text) here s
  form_same name (node_keyword m es) (reference kind text) s = absurd s
  form_same name (node_reference e) (keyword m' requests absorbed) s = absurd s

  parts_same : (xs : List (NodePart K)) (ys : List (Part K)) → SameParts w keys nodes k xs ys
      → list_all (λ x. form_holds w.keywords w.matcher nodes (subject w instance) c p by_edges x.form) xs ≡ list_all (part_accepts w instance c of_keys k p) ys
  parts_same [] [] s = refl
  parts_same (x ∷ xs) (y ∷ ys) s = ap₂ (λ a b. a && b) (form_same y.name x.form y.form s.0.form) (parts_same xs ys s.1)
  parts_same [] (y ∷ ys) s = absurd s
  parts_same (x ∷ xs) [] s = absurd s

  plan_same : (n : NodePlan K) (o : Plan K) → SamePlan w keys nodes k n o
      → ◌≡◌ {A = Bool} (elim n [ node_always ↦ true | node_never ↦ false | node_these xs ↦ list_all (λ x. form_holds w.keywords w.matcher nodes (subject w instance) c p by_edges x.form) xs ])
      (elim o [ always ↦ true | never ↦ false | these ys ↦ list_all (part_accepts w instance c of_keys k p) ys ])
  plan_same node_always always s = refl
  plan_same node_never never s = refl
  plan_same (node_these xs) (these ys) s = parts_same xs ys s
  plan_same node_always never s = absurd s
  plan_same node_always (these ys) s = absurd s
  plan_same node_never always s = absurd s
  plan_same node_never (these ys) s = absurd s
  plan_same (node_these xs) always s = absurd s
  plan_same (node_these xs) never s = absurd s

  holds_same : (i : ℕ) → SamePlan w keys nodes k (nodes.entries i) (plan w k) → node_holds w.keywords w.matcher nodes (subject w instance) c i p by_edges ≡ accepts_by w instance c of_keys k p
  holds_same i s = plan_same (nodes.entries i) (plan w k) s

-- ---- a set of keys as one of numbers

-- The answer for the key of a number, or else for the number itself.
abbrev at_number : {S : Type 0} → (Key S → Place → Bool) → Place → Bool → Option (Option (Key S)) → Bool
at_number accepts p other (Some (Some k)) = accepts k p
at_number accepts p other (Some None) = other
at_number accepts p other None = other

abbrev number_accepts : {S : Type 0} → Numbers S → (Key S → Place → Bool) → (ℕ → Place → Bool) → ℕ → Place → Bool
number_accepts keys accepts other i p = at_number accepts p (other i p) (slice_get keys i)

agrees : {S : Type 0} (keys : Numbers S) (accepts : Key S → Place → Bool) (other : ℕ → Place → Bool) (i : ℕ) (k : Key S) → IsNumber keys i k → (p : Place)
    → number_accepts keys accepts other i p ≡ accepts k p
agrees keys accepts other i k number p = ap (at_number accepts p (other i p)) number

-- ---- a set of numbers as one of targets

-- Targets that are reported to be the same are equal.
pub same_target_is : {S K R : Type 0} (w : Parts S K R) → ((a b : S) → Decides (w.resolver.same_state a b) (a ≡ b)) → (t u : Target S) → same_target w t u ≡ true → t ≡ u
same_target_is w states t u same = ap (λ k. k.target) (same_key_is w states (key_at t) (key_at u) (both_true _ _ (both_true _ _ (both_true _ _ same refl) refl) refl))

module _ {S K R : Type 0} (w : Parts S K R) (states : (a b : S) → Decides (w.resolver.same_state a b) (a ≡ b)) (keys : Numbers S) (accepts : ℕ → Place → Bool) where
  abbrev is_target : Target S → Option (Option (Key S)) → Bool
  is_target t (Some (Some k)) = same_target w t k.target
  is_target t (Some None) = false
  is_target t None = false

  -- A number that stands for a key of the target, and accepts at the place.
  record Accepted (t : Target S) (p : Place) : Type 0 where
    number : ℕ
    key : Key S
    is_number : IsNumber keys number key
    of_target : t ≡ key.target
    said : accepts number p ≡ true

  -- Whether one of the first n numbers is such a number.
  some_number : ℕ → Target S → Place → Bool
  some_number zero t p = false
  some_number (suc n) t p = (is_target t (slice_get keys n) && accepts n p) || some_number n t p

  some_is : (n : ℕ) (t : Target S) (p : Place) → some_number n t p ≡ true → Accepted t p
  unfolding some_number
  some_is zero t p e = absurd (true≢false (sym e))
  some_is (suc n) t p e = in_either (is_target t (slice_get keys n) && accepts n p) (some_number n t p)
      (λ h. go (slice_get keys n) refl (both_left _ _ h) (both_right _ _ h)) (some_is n t p) e
    where
      go : (o : Option (Option (Key S))) → slice_get keys n ≡ o → is_target t o ≡ true → accepts n p ≡ true → Accepted t p
      go (Some (Some k)) at_n same h = record { number = n; key = k; is_number = at_n; of_target = same_target_is w states t k.target same; said = h }
      go (Some None) at_n same h = absurd (true≢false (sym same))
      go None at_n same h = absurd (true≢false (sym same))

  is_some : (n i : ℕ) (k : Key S) (p : Place) → i < n → IsNumber keys i k → accepts i p ≡ true → some_number n k.target p ≡ true
  unfolding some_number
  is_some zero i k p l number e = absurd (omega arith)
  is_some (suc n) i k p l number e = go (eq-or-lt_of_le (omega arith)) (is_some n i k p)
    where
      go : (i ≡ n) ⊎ (i < n) → (i < n → IsNumber keys i k → accepts i p ≡ true → some_number n k.target p ≡ true) → ((is_target k.target (slice_get keys n) && accepts n p) || some_number n k.target p) ≡ true
      go (inl q) rest = or_left (is_target k.target (slice_get keys n) && accepts n p) _
          (subst (λ j. (is_target k.target (slice_get keys j) && accepts j p) ≡ true) q (both_true _ _ (ap (is_target k.target) number ∙ target_itself w (λ s. (states s s).1 refl) k.target) e))
      go (inr q) rest = or_right (is_target k.target (slice_get keys n) && accepts n p) _ (rest q number e)

  abbrev some_accepts : Target S → Place → Bool
  some_accepts = some_number (length keys)

  some_more : (i : ℕ) (p : Place) → accepts i p ≡ true → number_accepts keys (λ k. some_accepts k.target) accepts i p ≡ true
  some_more i p e = go (slice_get keys i) refl
    where
      go : (o : Option (Option (Key S))) → slice_get keys i ≡ o → at_number (λ k. some_accepts k.target) p (accepts i p) o ≡ true
      go (Some (Some k)) at_i = is_some (length keys) i k p (slice_get_within keys i (Some k) at_i) at_i e
      go (Some None) at_i = e
      go None at_i = e

-- ---- the statements

module _ {S K R : Type 0} (w : Parts S K R) (keys : Numbers S) (nodes : Nodes K) (laws : EachKeeps w.keywords) (states : (a b : S) → Decides (w.resolver.same_state a b) (a ≡ b))
    (numbered : AreNumbered w keys nodes) (ranked : Ranked nodes (length keys)) (monotone : AreMonotone w.keywords nodes (length keys)) (instance : Data) (c : Completion) where
  abbrev reads : Reads w.keywords
  reads = reads_of w.keywords laws

  within : (i : ℕ) (k : Key S) → IsNumber keys i k → i < length keys
  within i k number = slice_get_within keys i (Some k) number

  -- The targets whose numbers a solution accepts are a solution, for all keys.
  of_numbers_solves : (accepts : ℕ → Place → Bool) → IsNodeSolution w.keywords w.matcher nodes (subject w instance) c (length keys) accepts
      → by_keys.IsSolution w instance c (λ k. some_accepts w states keys accepts k.target)
  of_numbers_solves accepts solves k p e =
      let of_keys : Key S → Place → Bool = λ l. some_accepts w states keys accepts l.target in
      let a : Accepted w states keys accepts k.target p = some_is w states keys accepts (length keys) k.target p e in
      one_target_accepts w instance c (some_accepts w states keys accepts) k a.key a.of_target p
      ∙ (sym (holds_same w instance c keys nodes (number_accepts keys of_keys accepts) of_keys (agrees keys of_keys accepts) a.key p a.number (numbered.stands a.number a.key a.is_number).entries)
      ∙ node_more w.keywords reads w.matcher nodes instance c a.number p (λ e' b. accepts e'.node (place_below p b)) (λ e' b. number_accepts keys of_keys accepts e'.node (place_below p b))
      (word_monotone w.keywords reads w.matcher nodes instance c (length keys) ranked monotone a.number (within a.number a.key a.is_number))
      (λ e' b asks h. some_more w states keys accepts e'.node (place_below p b) h)
      (solves a.number p (within a.number a.key a.is_number) a.said))

  -- ---- from a set of keys that stands by itself, for those keys that are of a kind which their
  -- children inherit

  module _ (Of : Key S → Type 0) (on : (k l : Key S) → Of k → Contains (asked_for w k) l → Of l) (accepts : Key S → Place → Bool)
      (solves : (k : Key S) → Of k → (p : Place) → accepts k p ≡ true → accepts_by w instance c accepts k p ≡ true) where
    record Held (i : ℕ) (p : Place) : Type 0 where
      key : Key S
      number : IsNumber keys i key
      of_kind : Of key
      said : accepts key p ≡ true

    held_rests : (i : ℕ) (p : Place) → i < length keys → Held i p → Rests w.keywords reads w.matcher nodes instance c Held i p
    held_rests i p l h =
        let of_numbers : ℕ → Place → Bool = number_accepts keys accepts (λ j q. false) in
        let entries = (numbered.stands i h.key h.number).entries in
        record {
          answers = λ e b. of_numbers e.node (place_below p b);
          each = λ e b asks said.
              let leads : Leads w keys nodes h.key e = edges_lead w keys nodes h.key i entries e asks.edge in
              record { key = leads.key; number = leads.number; of_kind = on h.key leads.key h.of_kind leads.asked; said = sym (agrees keys accepts (λ j q. false) e.node leads.key leads.number (place_below p b)) ∙ said };
          holds = holds_same w instance c keys nodes of_numbers accepts (agrees keys accepts (λ j q. false)) h.key p i entries ∙ solves h.key h.of_kind p h.said;
        }

    -- The numbers of its keys say so.
    held_says : (i : ℕ) (k : Key S) (p : Place) → IsNumber keys i k → Of k → accepts k p ≡ true → (n : ℕ) (path : Text) (busy : List ℕ)
        → (Says w.keywords reads w.matcher nodes instance c (length keys) ranked monotone n i path p busy).verdict ≡ true
    held_says i k p number of_kind said n path busy = accepted_says w.keywords reads w.matcher nodes instance c (length keys) ranked monotone Held held_rests n i path p busy (within i k number)
        (record { key = k; number = number; of_kind = of_kind; said = said })

  -- ---- both ways

  -- What numbers say is a set of keys that stands by itself.
  said_by_keys : (i : ℕ) (k : Key S) (p : Place) → IsNumber keys i k → NodeAcceptsGreatest w.keywords w.matcher nodes (subject w instance) c (length keys) i p
      → (accepts : Target S → Place → Bool) × by_keys.IsSolution w instance c (λ l. accepts l.target) × (accepts k.target p ≡ true)
  said_by_keys i k p number (accepts, solves, at) =
      (some_accepts w states keys accepts, of_numbers_solves accepts solves, is_some w states keys accepts (length keys) i k p (within i k number) number at)

  module _ (root : Key S) where
    reached_solves : (accepts : Target S → Place → Bool) → StandsByItself w root instance c accepts
        → (i : ℕ) (k : Key S) (p : Place) → Reached w root k → IsNumber keys i k → accepts k.target p ≡ true → (n : ℕ) (path : Text) (busy : List ℕ)
        → (Says w.keywords reads w.matcher nodes instance c (length keys) ranked monotone n i path p busy).verdict ≡ true
    reached_solves accepts stands i k p reached number said = held_says (Reached w root) (λ k l r asked. asked_by r asked) (λ l. accepts l.target) stands i k p number reached said

    abbrev says : (i : ℕ) (k : Key S) (path : Text) (p : Place) → IsNumber keys i k → (n : ℕ) → left nodes (length keys) i (subject w instance p) [] < n
        → ((Says w.keywords reads w.matcher nodes instance c (length keys) ranked monotone n i path p []).verdict ≡ true) ↔ NodeAcceptsGreatest w.keywords w.matcher nodes (subject w instance) c (length keys) i p
    says i k path p number n low = nodes_say_greatest w.keywords laws w.matcher nodes (length keys) ranked monotone instance c i path p (within i k number) n low

    said_greatest : (i : ℕ) (k : Key S) (p : Place) → IsNumber keys i k → NodeAcceptsGreatest w.keywords w.matcher nodes (subject w instance) c (length keys) i p → AcceptsGreatest w root instance c k p
    said_greatest i k p number h = let (accepts, solves, at) = said_by_keys i k p number h in (accepts, (λ l r. solves l), at)

pub numbers_say_greatest : {S K R : Type 0} (w : Parts S K R) (keys : Numbers S) (nodes : Nodes K) → NumbersSayGreatest w keys nodes
numbers_say_greatest w keys nodes laws states numbered ranked monotone root instance c i k path p reached number n low =
    let says = says w keys nodes laws states numbered ranked monotone instance c root i k path p number n low in (
      λ is. said_greatest w keys nodes laws states numbered ranked monotone instance c root i k p number (says.0 is),
      λ h. reached_solves w keys nodes laws states numbered ranked monotone instance c root h.0 h.1 i k p reached number h.2 n path [],
    )

pub keys_accept_alike : {S K R : Type 0} (w : Parts S K R) (keys : Numbers S) (nodes : Nodes K) → KeysAcceptAlike w keys nodes
keys_accept_alike {S} w keys nodes laws states numbered ranked monotone root instance c i k p reached number =
    let deep : ℕ = suc (left nodes (length keys) i (subject w instance p) []) in
    let greatest = numbers_say_greatest w keys nodes laws states numbered ranked monotone root instance c i k [] p reached number deep (omega arith) in
    let says = says w keys nodes laws states numbered ranked monotone instance c root i k [] p number deep (omega arith) in (
      λ h. greatest.0 (held_says w keys nodes laws states numbered ranked monotone instance c (λ l. Unit {0}) (λ l m u asked. tt) h.0 (λ l u. h.1 l) i k p number tt h.2 deep [] []),
      λ h. let (accepts, solves, at) = said_by_keys w keys nodes laws states numbered ranked monotone instance c i k p number (says.0 (greatest.1 h)) in (λ l. accepts l.target, solves, at),
    )

pub numbers_accept_greatest : {S K R : Type 0} (w : Parts S K R) (keys : Numbers S) (nodes : Nodes K) → NumbersAcceptGreatest w keys nodes
numbers_accept_greatest w keys nodes laws states numbered ranked monotone instance i root number = (
  suc (left nodes (length keys) i (subject w instance []) []),
  λ n deep. let says = λ (c : Completion). numbers_say_greatest w keys nodes laws states numbered ranked monotone root instance c i root [] [] at_first number n (omega arith) in
      (λ each c. (says c).0 (each c), λ greatest c. (says c).1 (greatest c)),
)

pub largest_stands : {S K R : Type 0} (w : Parts S K R) (keys : Numbers S) (nodes : Nodes K) → LargestStands w keys nodes
largest_stands {S} w keys nodes laws states numbered ranked monotone root each instance c =
    let reads : Reads w.keywords = reads_of w.keywords laws in
    let says : ℕ → Place → Bool = λ i p. Verdict w.keywords reads w.matcher nodes instance c (length keys) ranked monotone i p [] in
    let solves = of_numbers_solves w keys nodes laws states numbered ranked monotone instance c says (is_solution w.keywords reads w.matcher nodes instance c (length keys) ranked monotone) in (
      some_accepts w states keys says,
      record {
        stands = λ k r. solves k;
        largest = λ others stands k reached p e. let (i, number) = each k reached in
            is_some w states keys says (length keys) i k p (slice_get_within keys i (Some k) number) number
            (reached_solves w keys nodes laws states numbered ranked monotone instance c root others stands i k p reached number e (suc (left nodes (length keys) i (subject w instance p) [])) [] []);
      },
    )

-- ---- what the calls answer

through : {P Q T : Type 0} → P ↔ Q → Q ↔ T → P ↔ T
through f g = (λ p. g.0 (f.0 p), λ t. f.1 (g.1 t))

pub greatest_answers : {S K R : Type 0} (w : Parts S K R) (keys : Numbers S) (nodes : Nodes K) → GreatestAnswers w keys nodes
greatest_answers w keys nodes laws states numbered ranked monotone instance i root number limit =
    let accepts = numbers_accept_greatest w keys nodes laws states numbered ranked monotone instance i root number in
    let follows : (n : ℕ) → Follows (guarded_sense w.keywords w.matcher nodes (subject w instance) n i) = λ n. all_nodes_follow w.keywords laws w.matcher nodes (subject w instance) n i in (
      (λ call valid (deep, says). (deep + accepts.0, λ n l d. through ((says n (omega arith)).0 d) (accepts.1 n (omega arith)))),
      (λ first (deep, says). (deep + accepts.0, λ n l d. through (none_where_accepted _ (follows n) limit first (says n (omega arith)) d) (accepts.1 n (omega arith)))),
      (λ errors (deep, says). (deep + accepts.0, λ n l d. through (listed_none _ iter_errors (follows n) limit errors ((says n (omega arith)).0 d)) (accepts.1 n (omega arith)))),
    )

pub finishing_answers : {S K R : Type 0} (w : Parts S K R) (keys : Numbers S) (nodes : Nodes K) → FinishingAnswers w keys nodes
finishing_answers w keys nodes laws states numbered ranked monotone finishes instance i root number limit some =
    let says = greatest_answers w keys nodes laws states numbered ranked monotone instance i root number limit in
    let decides = λ (n : ℕ). (nodes_decide w.keywords w.matcher finishes nodes (subject w instance) n i).decides limit in (
      (λ call valid h. let (deep, is) = says.0 call valid h in is deep (omega arith) (decides deep call some)),
      (λ first h. let (deep, is) = says.1 first h in is deep (omega arith) (decides deep validate some)),
      (λ errors h. let (deep, is) = says.2 errors h in is deep (omega arith) (decides deep iter_errors some)),
    )

pub plain_is_greatest : {S K R : Type 0} (w : Parts S K R) (keys : Numbers S) (nodes : Nodes K) → PlainIsGreatest w keys nodes
plain_is_greatest w keys nodes laws states numbered ranked monotone inside below instance i root number no_return reached reach n enough =
    let accepts = numbers_accept_greatest w keys nodes laws states numbered ranked monotone instance i root number in
    let means = numbers_mean w keys nodes laws inside below states numbered ranked instance i root number no_return reached reach n enough in
    subst (λ v. EachAccepts v ↔ AcceptsEach w root instance) (means.1 (means.0 + accepts.0) (omega arith)) (accepts.1 (means.0 + accepts.0) (omega arith))
