-- The laws of the traits, in terms of the definitions.
use Rattle.std.proofs.Common.{◌≡◌, Bool, true, false, cond, List, [], ◌∷◌, sym, subst, ap, ◌∙◌, arith}
use Rattle.std.specs.Prelude.{All, Option, Some, unwrap_or}
use Rattle.std.proofs.lemmas.List.Elements.{All-cons}
use Rattle.serde_json.specs.Data.{Data, null, Members}
use Rattle.serde_json.specs.Written.{members_have_float}
use Rattle.theory_definitions.specs.Instance.{Text, Place, subject_at, a_value}
use Rattle.theory_definitions.specs.Parts.{Parts}
use Rattle.theory_definitions.specs.Making.{compile, refer, Script, then_compile, then_refer, then_pending, then_reserve, then_end, Made, a_keyword, nothing, refused, followed, Making}
use Rattle.theory_meaning.specs.Numbered.{ValuesInside, IsBelow}
use Rattle.schema_traits.specs.ResolverViews.{IsInside}
use Rattle.schema_traits.specs.MakerViews.{IsStrictlyBelow, IsMade, MakesRightly}

pub values_inside : {S K R : Type 0} (w : Parts S K R) → IsInside w.resolver → ValuesInside w
values_inside w law = λ p path v there.
    let h = law p path v there in
    subst (λ (o : Option Data). subject_at (unwrap_or o null) path ≡ Some (a_value v)) (sym h.1) h.2

below_compile : (path : Place) → IsStrictlyBelow path → IsBelow (compile path)
below_compile [] h = h
below_compile (s ∷ path) h = tt

none : {A : Type 0} (P : A → Type 0) → All P []
none P = λ k d h. absurd (omega (arith, h))

module _ {K : Type 0} (absorbed : K → List Text) (is_whole : K → Bool) (object : Members) (is_self : Text → Bool) where
  either : (P : Making K → Type 0) (b : Bool) (x y : Making K) → P x → P y → P (cond b x y)
  either P true x y p q = p
  either P false x y p q = q

  -- a maker requests only what lies strictly below the object
  pub asks_below : (s : Script K) → MakesRightly absorbed is_whole object s → All IsBelow (followed is_self s).requests
  asks_below (then_compile path s) h = All-cons IsBelow (compile path) _ (below_compile path h.0) (asks_below s h.1)
  asks_below (then_refer text s skipped) h = All-cons IsBelow (refer text) _ tt
      (either (λ m. All IsBelow m.requests) (is_self text) (followed is_self skipped) (followed is_self s) (asks_below skipped h.1) (asks_below s h.0))
  asks_below (then_pending purpose free held) h = asks_below free h.1
  asks_below (then_reserve purpose s) h = asks_below s h
  asks_below (then_end m) h = none IsBelow

  made_whole : (m : Made K) (k : K) (names : List Text) → IsMade absorbed is_whole object m → m ≡ a_keyword k names → members_have_float object ≡ false → is_whole k ≡ true
  made_whole (a_keyword k' names') k names h e f = let same : k' ≡ k = cc in ap is_whole (sym same) ∙ h.1 f
  made_whole nothing k names h e f = absurd (let g : ⊥ = cc in g)
  made_whole (refused told error) k names h e f = absurd (let g : ⊥ = cc in g)

  -- what is made of an object without fractions is whole
  pub makes_whole : (s : Script K) → MakesRightly absorbed is_whole object s → (k : K) (names : List Text) → (followed is_self s).ends ≡ a_keyword k names → members_have_float object ≡ false → is_whole k ≡ true
  makes_whole (then_compile path s) h k names e f = makes_whole s h.1 k names e f
  makes_whole (then_refer text s skipped) h k names e f =
      (either (λ m. m.ends ≡ a_keyword k names → is_whole k ≡ true) (is_self text) (followed is_self skipped) (followed is_self s)
      (λ q. makes_whole skipped h.1 k names q f) (λ q. makes_whole s h.0 k names q f)) e
  makes_whole (then_pending purpose free held) h k names e f = makes_whole free h.1 k names e f
  makes_whole (then_reserve purpose s) h k names e f = makes_whole s h k names e f
  makes_whole (then_end m) h k names e f = made_whole m k names h e f

  -- and comes with the names that it absorbs
  made_absorbed : (m : Made K) (k : K) (names : List Text) → IsMade absorbed is_whole object m → m ≡ a_keyword k names → names ≡ absorbed k
  made_absorbed (a_keyword k' names') k names h e = let same : k' ≡ k = cc in let list : names' ≡ names = cc in sym list ∙ h.0 ∙ ap absorbed same
  made_absorbed nothing k names h e = absurd (let g : ⊥ = cc in g)
  made_absorbed (refused told error) k names h e = absurd (let g : ⊥ = cc in g)

  pub makes_absorbed : (s : Script K) → MakesRightly absorbed is_whole object s → (k : K) (names : List Text) → (followed is_self s).ends ≡ a_keyword k names → names ≡ absorbed k
  makes_absorbed (then_compile path s) h k names e = makes_absorbed s h.1 k names e
  makes_absorbed (then_refer text s skipped) h k names e =
      (either (λ m. m.ends ≡ a_keyword k names → names ≡ absorbed k) (is_self text) (followed is_self skipped) (followed is_self s)
      (λ q. makes_absorbed skipped h.1 k names q) (λ q. makes_absorbed s h.0 k names q)) e
  makes_absorbed (then_pending purpose free held) h k names e = makes_absorbed free h.1 k names e
  makes_absorbed (then_reserve purpose s) h k names e = makes_absorbed s h k names e
  makes_absorbed (then_end m) h k names e = made_absorbed m k names h e
