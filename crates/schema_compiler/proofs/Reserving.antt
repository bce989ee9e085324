-- Reserved numbers: how reservations add up, and how a maker's own are given up.
use Rattle.std.proofs.Common.{◌≡◌, ℕ, suc, zero, ◌<◌, Bool, true, false, List, [], ◌∷◌, ◌++◌, length, map, refl, ap, sym, ◌∙◌, subst, append_assoc, arith, true≢false}
use Rattle.std.specs.Prelude.{Some, if◌then◌else◌, slice_get, slice_set}
use Rattle.std.proofs.lemmas.List.{append-nil}
use Rattle.theory_definitions.specs.Instance.{Text}
use Rattle.theory_definitions.specs.Drafts.{SchemaPlace}
use Rattle.schema_keys.specs.Compiling.{Each}
use Rattle.schema_compiler.specs.Carried.{Table}
use Rattle.schema_compiler.specs.Reserving.{Ends, Holds, IsGivenUp, IsOwn, Reserved, ReservedNode, Reserves, is_in_force, with_node, with_nodes_from}
use Rattle.schema_keys.proofs.Lists.{each_append, each_map}

-- a table with these numbers reserved
abbrev pub having : {S C : Type 0} → Table S C → List Reserved → Table S C
having t rs = record { keys = t.keys; nodes = t.nodes; round = t.round; depth = t.depth; loose = t.loose; reserved = rs }

pub reserves_none : (rs : List Reserved) → Reserves rs rs
reserves_none rs = record { more = []; added = sym (append-nil rs); given_up = tt }

pub reserves_then : (rs rs' rs'' : List Reserved) → Reserves rs rs' → Reserves rs' rs'' → Reserves rs rs''
reserves_then rs rs' rs'' a b = record {
  more = a.more ++ b.more;
  added = b.added ∙ ap (λ xs. xs ++ b.more) a.added ∙ append_assoc rs a.more b.more;
  given_up = each_append IsGivenUp a.more b.more a.given_up b.given_up;
}

pub reserves_same : (rs rs' rs'' : List Reserved) → Reserves rs rs' → rs'' ≡ rs' → Reserves rs rs''
reserves_same rs rs' rs'' a same = subst (Reserves rs) (sym same) a

pub reserves_between : (rs os ds rs' : List Reserved) → os ≡ rs → Reserves os ds → rs' ≡ ds → Reserves rs rs'
reserves_between rs os ds rs' first a last = subst (λ xs. Reserves xs rs') first (reserves_same os ds rs' a last)

pub all_given_up : (rs os ds rs' : List Reserved) → Each IsGivenUp rs → os ≡ rs → Reserves os ds → rs' ≡ ds → Each IsGivenUp rs'
all_given_up rs os ds rs' each first a last =
    subst (Each IsGivenUp) (sym (last ∙ a.added ∙ ap (λ xs. xs ++ a.more) first)) (each_append IsGivenUp rs a.more each a.given_up)

-- ---- a maker's own

module _ (object : SchemaPlace) (keyword : Text) where
  pub holds_none : (rs : List Reserved) → Holds object keyword rs rs
  holds_none rs = record { more = []; added = sym (append-nil rs); own = tt }

  not_own : (r : Reserved) → IsGivenUp r → IsOwn object keyword r
  not_own r up is = absurd (true≢false (sym is ∙ up))

  pub holds_then : (rs rs' rs'' : List Reserved) → Holds object keyword rs rs' → Reserves rs' rs'' → Holds object keyword rs rs''
  holds_then rs rs' rs'' a b = record {
    more = a.more ++ b.more;
    added = b.added ∙ ap (λ xs. xs ++ b.more) a.added ∙ append_assoc rs a.more b.more;
    own = each_append (IsOwn object keyword) a.more b.more a.own (each_map IsGivenUp (IsOwn object keyword) b.more not_own b.given_up);
  }

  pub holds_one : (rs rs' rs'' : List Reserved) (r : Reserved) → Holds object keyword rs rs' → r.object ≡ object → r.keyword ≡ keyword → rs'' ≡ rs' ++ r ∷ [] → Holds object keyword rs rs''
  holds_one rs rs' rs'' r a at named added = record {
    more = a.more ++ r ∷ [];
    added = added ∙ ap (λ xs. xs ++ r ∷ []) a.added ∙ append_assoc rs a.more (r ∷ []);
    own = each_append (IsOwn object keyword) a.more (r ∷ []) a.own ((λ is. (at, named)), tt);
  }

  pub ends_held : (node : ReservedNode) (n : ℕ) (rs rs' rs'' : List Reserved) → Holds object keyword rs rs' → n ≡ length rs → rs'' ≡ with_nodes_from n node rs' → Ends object keyword node rs rs''
  ends_held node n rs rs' rs'' a from filled = record {
    held = a.more;
    own = a.own;
    filled = filled ∙ ap (λ m. with_nodes_from m node rs') from ∙ ap (with_nodes_from (length rs) node) a.added ∙ from_end rs a.more;
  } where
    all_from : (xs : List Reserved) → with_nodes_from 0 node xs ≡ map (with_node node) xs
    all_from [] = refl
    all_from (x ∷ xs) = ap (λ ys. with_node node x ∷ ys) (all_from xs)

    from_end : (xs ys : List Reserved) → with_nodes_from (length xs) node (xs ++ ys) ≡ xs ++ map (with_node node) ys
    from_end [] ys = all_from ys
    from_end (x ∷ xs) ys = ap (λ zs. x ∷ zs) (from_end xs ys)

  pub ends_reserves : (node : ReservedNode) (rs rs' : List Reserved) → is_in_force node ≡ false → Ends object keyword node rs rs' → Reserves rs rs'
  ends_reserves node rs rs' over e = record { more = map (with_node node) e.held; added = e.filled; given_up = each e.held } where
    up : (r : Reserved) → IsGivenUp (with_node node r)
    up r =
        let go : (b : Bool) → is_in_force r.node ≡ b → is_in_force (if is_in_force r.node then node else r.node) ≡ false = elim [
          | true ↦ λ is. rw is over
          | false ↦ λ is. rw is is
        ] in
        go (is_in_force r.node) refl

    each : (rs : List Reserved) → Each IsGivenUp (map (with_node node) rs)
    each [] = tt
    each (r ∷ rs) = (up r, each rs)

-- ---- they are filled one after another

pub filled_next : (node : ReservedNode) (n : ℕ) (rs : List Reserved) (r : Reserved) → slice_get rs n ≡ Some r → with_nodes_from (suc n) node (slice_set rs n (with_node node r)) ≡ with_nodes_from n node rs
filled_next node n [] r at = absurd (let g : ⊥ = cc in g)
filled_next node zero (x ∷ rs) r at = let same : x ≡ r = cc in ap (λ y. with_node node y ∷ with_nodes_from 0 node rs) (sym same)
filled_next node (suc n) (x ∷ rs) r at = ap (λ ys. x ∷ ys) (filled_next node n rs r at)

pub filled_all : (node : ReservedNode) (n : ℕ) (rs : List Reserved) → (n < length rs → ⊥) → with_nodes_from n node rs ≡ rs
filled_all node n [] over = refl
filled_all node zero (x ∷ rs) over = absurd (over (omega arith))
filled_all node (suc n) (x ∷ rs) over = ap (λ ys. x ∷ ys) (filled_all node n rs (λ l. over (omega arith)))
