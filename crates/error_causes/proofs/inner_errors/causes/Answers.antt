use Rattle.std.proofs.Common.{◌≡◌, ◌++◌, ◌∙◌, Bool, List, [], ◌∷◌, ap, false, map, refl, sym, true}
use Rattle.std.specs.Prelude.{filter}
use Rattle.schema_output.specs.EntryViews.{shown_of}
use Rattle.schema_output.specs.Output.{Shown}
use Rattle.schema_output.specs.declared.errors.ErrorEntry.{ErrorEntry}
use Rattle.error_causes.specs.Causes.{is_cause}
use Rattle.error_causes.proofs.inner_errors.causes.Goals as goal

-- a cause is found
found_more : (p : Shown → Bool) (f : ErrorEntry → Shown) (xs : List ErrorEntry) (e : ErrorEntry) (rest : List ErrorEntry) → p (f e) ≡ true
    → map f xs ++ filter p (map f (e ∷ rest)) ≡ map f (xs ++ e ∷ []) ++ filter p (map f rest)
found_more p f [] e rest holds = rw holds refl
found_more p f (x ∷ xs) e rest holds = ap (λ t. f x ∷ t) (found_more p f xs e rest holds)

-- an error is passed over
passed_over : (p : Shown → Bool) (f : ErrorEntry → Shown) (e : ErrorEntry) (rest : List ErrorEntry) → p (f e) ≡ false
    → filter p (map f (e ∷ rest)) ≡ filter p (map f rest)
passed_over p f e rest fails = rw fails refl

pub loop-entry-preserved-in-Continue-branch-3 : goal.loop-entry-preserved-in-Continue-branch-3
loop-entry-preserved-in-Continue-branch-3 c texts =
    let p = is_cause c.as_str-path.result.now c.as_str-instance.result.now in
    let f = shown_of texts in
    let found = c.loop-entry.found.items in
    c.loop-entry.invariant texts ∙ ap (λ left. map f found ++ filter p (map f left)) c.in-Some.ensures.steps
    ∙ found_more p f found c.in-Some.entry c.next.new.self (sym (c.is_cause.ensures.cause texts) ∙ c.if-is_cause.true)
    ∙ ap (λ es. map f es ++ filter p (map f c.next.new.self)) (sym c.in_ok-push.ensures.items)

pub loop-entry-preserved : goal.loop-entry-preserved
loop-entry-preserved c texts =
    let p = is_cause c.as_str-path.result.now c.as_str-instance.result.now in
    let f = shown_of texts in
    let found = c.loop-entry.found.items in
    c.loop-entry.invariant texts ∙ ap (λ left. map f found ++ filter p (map f left)) c.in-Some.ensures.steps
    ∙ ap (λ shown. map f found ++ shown) (passed_over p f c.in-Some.entry c.next.new.self (sym (c.is_cause.ensures.cause texts) ∙ c.if-is_cause.false))
