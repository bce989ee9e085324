use Rattle.std.proofs.Common.{◌≡◌, ◌-◌, inl, inr, Some, false, length, map, refl, ap, sym, ◌∙◌, subst, arith}
use Rattle.std.specs.Prelude.{option_map, slice_get}
use Rattle.std.proofs.lemmas.Option.{slice_get-map, slice_get_read}
use Rattle.schema_traits.specs.MakerViews.{purpose_of}
use Rattle.schema_traits.specs.ResolverViews.{place_of}
use Rattle.schema_compiler.specs.Reserving.{Reserved, is_for}
use Rattle.schema_compiler.specs.ReservedViews.{reserved_of}
use Rattle.schema_keys.proofs.Lists.{equal_or, some_is}
use Rattle.schema_compiler.proofs.compiler.reservations.last_pending.Goals as goal

pub returns-then-is_for : goal.returns-then-is_for
returns-then-is_for c =
    let i = c.loop-number.number - 1 in
    let x = c.index-items-number.result in
    let inv = c.loop-number.invariant.0 in
    let more = c.loop-number-test.true in
    let at : slice_get c.args.items.now i ≡ Some x = slice_get_read c.args.items.now (length c.args.items.now) i x refl (omega arith) c.index-items-number.is in
    record {
      pending = record {
        reserved = reserved_of x;
        at = slice_get-map reserved_of c.args.items.now i ∙ ap (option_map reserved_of) at;
        pending = sym c.is_for.ensures.is ∙ c.if-is_for.true;
        last = λ j r l there. c.loop-number.invariant.1 j r (omega arith) there;
      };
    }

pub loop-number-preserved : goal.loop-number-preserved
loop-number-preserved c =
    let i = c.loop-number.number - 1 in
    let x = c.index-items-number.result in
    let inv = c.loop-number.invariant.0 in
    let more = c.loop-number-test.true in
    let at : slice_get c.args.items.now i ≡ Some x = slice_get_read c.args.items.now (length c.args.items.now) i x refl (omega arith) c.index-items-number.is in
    let here : slice_get (map reserved_of c.args.items.now) i ≡ Some (reserved_of x) = slice_get-map reserved_of c.args.items.now i ∙ ap (option_map reserved_of) at in
    let other : is_for (purpose_of c.args.kind) (place_of c.args.object.now) (reserved_of x) ≡ false = sym c.is_for.ensures.is ∙ c.if-is_for.false in (
      omega arith,
      λ j r l there. elim (equal_or j i) [
        | inl e ↦ subst (λ (q : Reserved). is_for (purpose_of c.args.kind) (place_of c.args.object.now) q ≡ false)
            (some_is (reserved_of x) r (sym here ∙ ap (slice_get (map reserved_of c.args.items.now)) (sym e) ∙ there)) other
        | inr ne ↦ c.loop-number.invariant.1 j r (omega (arith, ne)) there
      ],
    )
