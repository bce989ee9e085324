-- How many nodes may still be asked, from one step to the next.
use Rattle.std.proofs.Common.{◌≡◌, ◌∙◌, arith, refl, subst, sym}
use Rattle.schema_run_context.specs.Works.{Asks, Budget, Spends}

pub spends_none : (w : Budget) → Spends w w
spends_none w = record { limited = refl; left = omega arith; deepest = refl }

pub spends_on : (a b c : Budget) → Spends a b → Spends b c → Spends a c
spends_on a b c h k =
    let more = h.left in
    let less = k.left in
    record { limited = k.limited ∙ h.limited; left = omega (arith, more, less); deepest = k.deepest ∙ h.deepest }

pub spends_same : (a b : Budget) → b ≡ a → Spends a b
spends_same a b e = subst (Spends a) (sym e) (spends_none a)

-- From equals to equals.
pub spends_between : (a b c d : Budget) → b ≡ a → d ≡ c → Spends b c → Spends a d
spends_between a b c d e f h = subst (λ (z : Budget). Spends z d) e (subst (Spends b) (sym f) h)

pub asks_spends : (a b : Budget) → Asks a b → Spends a b
asks_spends a b h = record { limited = h.limited; left = h.left; deepest = h.deepest }

pub asks_then : (a b c : Budget) → Asks a b → Spends b c → Asks a c
asks_then a b c h k = record {
  limited = k.limited ∙ h.limited;
  left =
      let more = h.left in
      let less = k.left in
      omega (arith, more, less);
  fewer = λ is.
      let more = h.fewer is in
      let less = k.left in
      omega (arith, more, less);
  deepest = k.deepest ∙ h.deepest;
}
