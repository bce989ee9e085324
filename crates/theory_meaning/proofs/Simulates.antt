-- If no question returns, a number says what unfolding says of its key.
use Rattle.std.proofs.Common.{◌≡◌, ℕ, zero, suc, ◌<◌, ◌≤◌, ◌==◌, Bool, true, false, ◌&&◌, ◌||◌, List, [], ◌∷◌, ◌++◌, length, refl, sym, subst, ◌∙◌, ap, arith, rules, true≢false, inl, inr}
use Rattle.std.specs.Prelude.{Contains, Option, Some, None, ◌⊎◌, bytes_eq}
use Rattle.std.specs.List.{list_any}
use Rattle.std.proofs.lemmas.Option.{slice_get_within}
use Rattle.std.proofs.lemmas.Bool.{eqb-true}
use Rattle.std.proofs.lemmas.Slice.Eq.{bytes_eq-Decides}
use Rattle.serde_json.specs.Data.{Data}
use Rattle.theory_definitions.specs.Instance.{Text, Place, Step, to_member, to_item, to_name, same_step, same_place}
use Rattle.theory_definitions.specs.Drafts.{Draft, draft_4, draft_6, draft_7, draft_2019_09, draft_2020_12, draft_unknown, same_draft}
use Rattle.theory_definitions.specs.Parts.{Parts}
use Rattle.theory_definitions.specs.Keywords.{Below, here, down}
use Rattle.theory_definitions.specs.Plan.{Target, Key, Edge, height, same_target}
use Rattle.theory_definitions.specs.Meaning.{subject, place_below, within, unfolded}
use Rattle.theory_meaning.specs.Returns.{Asked, questions, LeadsTo, stays, Return}
use Rattle.theory_meaning.specs.Paths.{edges}
use Rattle.theory_definitions.specs.Guarded.{NodeEdge, Nodes, progress_below, across, guarded_within}
use Rattle.theory_meaning.specs.Numbered.{Numbers, IsNumber, Ranked, left, SubschemasInside}
use Rattle.theory_meaning.proofs.Questions.{Asks, asked_in, further, goes_by}
use Rattle.theory_definitions.proofs.SameVocabularies.{vocabularies_itself}
use Rattle.theory_meaning.proofs.Settles.{NodeAsks, free_falls, guarded_falls}

-- ---- equal things are the same

pub same_number : (n : ℕ) → (n == n) ≡ true
same_number n = search rules

pub same_text : (t : Text) → bytes_eq t t ≡ true
same_text t = (bytes_eq-Decides t t).1 refl

pub both_true : (a b : Bool) → a ≡ true → b ≡ true → (a && b) ≡ true
both_true true b e f = f
both_true false b e f = e

step_itself : (s : Step) → same_step s s ≡ true
step_itself (to_member k) = same_text k
step_itself (to_item n) = same_number n
step_itself (to_name k) = same_text k

pub place_itself : (p : Place) → same_place p p ≡ true
place_itself [] = refl
place_itself (s ∷ p) = both_true _ _ (step_itself s) (place_itself p)

draft_itself : (d : Draft) → same_draft d d ≡ true
draft_itself draft_4 = refl
draft_itself draft_6 = refl
draft_itself draft_7 = refl
draft_itself draft_2019_09 = refl
draft_itself draft_2020_12 = refl
draft_itself draft_unknown = refl

pub target_itself : {S K R : Type 0} (w : Parts S K R) → ((s : S) → w.resolver.same_state s s ≡ true) → (t : Target S) → same_target w t t ≡ true
target_itself w state t = both_true _ _ (both_true _ _ (both_true _ _ (both_true _ _ (same_number t.place.document) (place_itself t.place.path)) (state t.state)) (draft_itself t.draft)) (vocabularies_itself t.vocabularies)

abbrev key_or : {S : Type 0} → Key S → Option (Option (Key S)) → Key S
key_or k (Some (Some x)) = x
key_or k None = k
key_or k (Some None) = k

pub one_key : {S : Type 0} (keys : Numbers S) (i : ℕ) (k l : Key S) → IsNumber keys i k → IsNumber keys i l → k ≡ l
one_key {S} keys i k l a b = let e : ◌≡◌ {A = Option (Option (Key S))} (Some (Some k)) (Some (Some l)) = sym a ∙ b in ap (key_or k) e

or_cases : (a b : Bool) → (a || b) ≡ true → (a ≡ true) ⊎ (b ≡ true)
or_cases true b h = inl refl
or_cases false b h = inr h

module _ {S K R : Type 0} (w : Parts S K R) (instance : Data) (keys : Numbers S) (nodes : Nodes K) where
  -- An edge of a number and the edge of its key that the same question asks.
  pub record BothAsk (i : ℕ) (k : Key S) (p : Place) (e : NodeEdge) (b : Below) (edge : Edge S) : Type 0 where
    pub number : IsNumber keys e.node edge.key
    pub path : e.path ≡ edge.path
    pub asks : Asks w instance k p edge (place_below p b)
    pub node_asks : NodeAsks instance nodes i p e b
    pub is_edge : Contains (edges w k) edge

module _ {S K R : Type 0} (w : Parts S K R) (instance : Data) (keys : Numbers S) (nodes : Nodes K)
    (inside : SubschemasInside w) (same_state : (s : S) → w.resolver.same_state s s ≡ true) (ranked : Ranked nodes (length keys)) where
  module _ {X : Type 0} (yes : ℕ → Text → Place → X) (last : X) (node : ℕ → Text → Place → (NodeEdge → Below → X) → X) (key : Key S → Text → Place → (Edge S → Place → X) → X)
      (same : (i : ℕ) (k : Key S) → IsNumber keys i k → (path : Text) (p : Place) (f : NodeEdge → Below → X) (g : Edge S → Place → X)
      → ((e : NodeEdge) (b : Below) (edge : Edge S) → BothAsk w instance keys nodes i k p e b edge → f e b ≡ g edge (place_below p b)) → node i path p f ≡ key k path p g)
      (root : Asked w instance) (none : ¬ (Return w instance root))
      -- This number of references is sufficient here: also for each further question, and one less
      -- for the target of a reference.
      (Enough : ℕ → ℕ → List ℕ → Asked w instance → Type 0)
      (on : (n i j : ℕ) (busy busy' : List ℕ) (a c : Asked w instance) → Contains (questions w instance a) c → left nodes (length keys) j (subject w instance c.place) busy' < left nodes (length keys) i (subject w instance a.place) busy
      → Enough n i busy a → Enough n j busy' c)
      (one_less : (n i j : ℕ) (busy busy' : List ℕ) (a c : Asked w instance) → Contains (questions w instance a) c → left nodes (length keys) j (subject w instance c.place) busy' < left nodes (length keys) i (subject w instance a.place) busy
      → Enough n i busy a → (n' : ℕ) × (n ≡ suc n') × Enough n' j busy' c) where
    -- Each number in progress was asked at this place, on the path to here.
    Carried : List ℕ → Asked w instance → Type 0
    Carried busy a = (j : ℕ) → list_any (λ i. i == j) busy ≡ true
        → (b : Asked w instance) × IsNumber keys j b.key × (b.place ≡ a.place) × LeadsTo w instance root b × LeadsTo w instance b a

    carried_none : (a : Asked w instance) → Carried [] a
    unfolding Carried
    carried_none a j h = absurd (true≢false (sym h))

    carried_below : (a c : Asked w instance) (busy : List ℕ) (b : Below) → c.place ≡ place_below a.place b → Contains (questions w instance a) c → Carried busy a → Carried (progress_below busy b) c
    unfolding Carried
    carried_below a c busy here e q h j is = let (b, number, at_b, way, on) = h j is in (b, number, at_b ∙ sym e, way, further w instance on q)
    carried_below a c busy (down s) e q h j is = absurd (true≢false (sym is))

    carried_entered : (c : Asked w instance) (busy : List ℕ) (j : ℕ) → IsNumber keys j c.key → LeadsTo w instance root c → Carried busy c → Carried (j ∷ busy) c
    unfolding Carried
    carried_entered c busy j number way h n is = go (or_cases (j == n) _ is)
      where
        go : ((j == n) ≡ true) ⊎ (list_any (λ i. i == n) busy ≡ true) → (b : Asked w instance) × IsNumber keys n b.key × (b.place ≡ c.place) × LeadsTo w instance root b × LeadsTo w instance b c
        go (inl e) = (c, subst (λ m. IsNumber keys m c.key) (eqb-true j n e) number, refl, way, stays)
        go (inr e) = h n e

    -- A number in progress is not asked again.
    not_again : (a c : Asked w instance) (busy : List ℕ) (b : Below) (j : ℕ) → c.place ≡ place_below a.place b → IsNumber keys j c.key → Contains (questions w instance a) c → Carried busy a
        → list_any (λ i. i == j) (progress_below busy b) ≡ true → ⊥
    unfolding Carried
    not_again a c busy here j e number q h is = let (b, number', at_b, way, on) = h j is in
        let (next, goes_on, back) = goes_by w instance on q in
        none (record {
          met = b;
          next = next;
          again = c;
          reaches = way;
          goes_on = goes_on;
          comes_back = back;
          same = both_true _ _ (subst (λ k. same_target w b.key.target k.target ≡ true) (one_key keys j b.key c.key number' number) (target_itself w same_state b.key.target))
              (subst (λ p. same_place b.place p ≡ true) (at_b ∙ sym e) (place_itself b.place));
        })
    not_again a c busy (down s) j e number q h is = true≢false (sym is)

    -- The target of a reference, with n more references.
    over : ℕ → Key S → Text → Place → X
    over zero k path p = last
    over (suc n) k path p = unfolded w instance last key n k path p

    unfolded_is : (n : ℕ) (k : Key S) (path : Text) (p : Place) → unfolded w instance last key n k path p ≡ within w instance last key (over n) (height w k) k path p
    unfolding over
    unfolded_is zero k path p = refl
    unfolded_is (suc n) k path p = refl

    by_guard : (g t : Bool) (x u y z : X) → (g ≡ false → x ≡ z) → (t ≡ true → ⊥) → (t ≡ false → y ≡ z)
        → ◌≡◌ {A = X} (elim g [ false ↦ x | true ↦ elim t [ true ↦ u | false ↦ y ] ]) z
    by_guard false t x u y z f n h = f refl
    by_guard true true x u y z f n h = absurd (n refl)
    by_guard true false x u y z f n h = h refl

    by_kind : (b : Bool) (x y z : X) → (b ≡ true → x ≡ y) → (b ≡ false → x ≡ z) → ◌≡◌ {A = X} x (elim b [ true ↦ y | false ↦ z ])
    by_kind true x y z f g = f refl
    by_kind false x y z f g = g refl

    measure : ℕ → Asked w instance → List ℕ → ℕ
    measure i a busy = left nodes (length keys) i (subject w instance a.place) busy

    Simulates : ℕ → Type 0
    Simulates m = (n h i : ℕ) (a : Asked w instance) (busy : List ℕ) → IsNumber keys i a.key → LeadsTo w instance root a → Carried busy a
        → Enough n i busy a → height w a.key ≤ h → measure i a busy < m
        → guarded_within yes node m i a.path a.place busy ≡ within w instance last key (over n) h a.key a.path a.place

    reference_step : (m : ℕ) → Simulates m → (n j : ℕ) (c : Asked w instance) (busy' : List ℕ) → IsNumber keys j c.key → LeadsTo w instance root c → Carried busy' c
        → (n' : ℕ) × (n ≡ suc n') × Enough n' j busy' c → left nodes (length keys) j (subject w instance c.place) busy' < m
        → guarded_within yes node m j c.path c.place busy' ≡ over n c.key c.path c.place
    unfolding Simulates measure over
    reference_step m ih n j c busy' number way k (n', is, most) low =
        ih n' (height w c.key) j c busy' number way k most (omega arith) low ∙ sym (unfolded_is n' c.key c.path c.place) ∙ ap (λ u. over u c.key c.path c.place) (sym is)

    -- One more question.
    step : (m : ℕ) → Simulates m → (n h i : ℕ) (a : Asked w instance) (busy : List ℕ) → IsNumber keys i a.key → LeadsTo w instance root a → Carried busy a
        → Enough n i busy a → height w a.key ≤ suc h → measure i a busy ≤ m → (e : NodeEdge) (b : Below) (edge : Edge S) → BothAsk w instance keys nodes i a.key a.place e b edge
        → across yes node (guarded_within yes node m) a.path a.place busy e b
        ≡ elim edge.is_reference [ true ↦ over n edge.key (a.path ++ edge.path) (place_below a.place b) | false ↦ within w instance last key (over n) h edge.key (a.path ++ edge.path) (place_below a.place b) ]
    unfolding Simulates measure over
    step m ih n h i a busy number way carried most high low e b edge pair =
        let c : Asked w instance = record { key = edge.key; path = a.path ++ edge.path; place = place_below a.place b } in
        let q : Contains (questions w instance a) c = asked_in w instance a edge (place_below a.place b) pair.asks in
        let way' : LeadsTo w instance root c = further w instance way q in
        let carried' : Carried (progress_below busy b) c = carried_below a c busy b refl q carried in
        let l : i < length keys = slice_get_within keys i (Some a.key) number in
        let reaches : (busy' : List ℕ) → Carried busy' c → left nodes (length keys) e.node (subject w instance (place_below a.place b)) busy' < left nodes (length keys) i (subject w instance a.place) busy
        → guarded_within yes node m e.node (a.path ++ e.path) (place_below a.place b) busy'
        ≡ elim edge.is_reference [ true ↦ over n edge.key (a.path ++ edge.path) (place_below a.place b) | false ↦ within w instance last key (over n) h edge.key (a.path ++ edge.path) (place_below a.place b) ]
        = λ busy' k falls. ap (λ t. guarded_within yes node m e.node (a.path ++ t) (place_below a.place b) busy') pair.path
        ∙ by_kind edge.is_reference _ _ _ (λ is. reference_step m ih n e.node c busy' pair.number way' k (one_less n i e.node busy busy' a c q falls most) (omega arith))
        (λ is. let f = inside a.key edge pair.is_edge is in ih n h e.node c busy' pair.number way' k (on n i e.node busy busy' a c q falls most) (omega arith) (omega arith)) in
        by_guard e.guarded (list_any (λ j. j == e.node) (progress_below busy b)) _ _ _ _
        (λ is. reaches (progress_below busy b) carried' (free_falls instance nodes (length keys) ranked i a.place busy e b l pair.node_asks is))
        (not_again a c busy b e.node refl pair.number q carried)
        (λ is. reaches (e.node ∷ progress_below busy b) (carried_entered c (progress_below busy b) e.node pair.number way' carried') (guarded_falls instance nodes (length keys) ranked i a.place busy e b l pair.node_asks is))

    simulates : (m : ℕ) → Simulates m
    unfolding Simulates measure over
    simulates zero n h i a busy number way carried most high low = absurd (omega arith)
    simulates (suc m) n zero i a busy number way carried most high low = absurd (omega arith)
    simulates (suc m) n (suc h) i a busy number way carried most high low =
        same i a.key number a.path a.place _ _ (λ e b edge pair. step m (simulates m) n h i a busy number way carried most high (omega arith) e b edge pair)

    -- With nothing in progress, at every sufficient depth.
    pub says_unfolding : (m n i : ℕ) → IsNumber keys i root.key → left nodes (length keys) i (subject w instance root.place) [] < m → Enough n i [] root
        → guarded_within yes node m i root.path root.place [] ≡ unfolded w instance last key n root.key root.path root.place
    unfolding Simulates measure
    says_unfolding m n i number low enough = simulates m n (height w root.key) i root [] number stays (carried_none root) enough (omega arith) low ∙ sym (unfolded_is n root.key root.path root.place)
