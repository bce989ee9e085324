-- If a property holds of each request of a maker and of how it ends, it holds of them up to the
-- first request that is refused.
use Rattle.std.proofs.Common.{◌≡◌, Bool, true, false, cond, List, [], ◌∷◌}
use Rattle.std.specs.Prelude.{All}
use Rattle.std.proofs.lemmas.List.Elements.{All-cons, All-head, All-nil, All-tail}
use Rattle.theory_definitions.specs.Instance.{Text}
use Rattle.theory_definitions.specs.Making.{Made, Making, Request, a_keyword, stopped, until_refused}

module _ {K : Type 0} (is_refused : Request → Bool) where
  pub each_until : (P : Request → Type 0) (rs : List Request) (m : Made K) → All P rs → All P (until_refused is_refused rs m).requests
  each_until P [] m h = h
  each_until P (r ∷ rs) m h = All-cons P r _ (All-head P r rs h) (go (is_refused r) (each_until P rs m (All-tail P r rs h)))
    where
      go : (b : Bool) → All P (until_refused is_refused rs m).requests → All P (cond {A = Making K} b stopped (until_refused is_refused rs m)).requests
      go true h = All-nil P
      go false h = h

  pub ends_until : (rs : List Request) (m : Made K) (k : K) (absorbed : List Text) → (until_refused is_refused rs m).ends ≡ a_keyword k absorbed → m ≡ a_keyword k absorbed
  ends_until [] m k absorbed e = e
  ends_until (r ∷ rs) m k absorbed e = go (is_refused r) e (ends_until rs m k absorbed)
    where
      go : (b : Bool) → (cond {A = Making K} b stopped (until_refused is_refused rs m)).ends ≡ a_keyword k absorbed → ((until_refused is_refused rs m).ends ≡ a_keyword k absorbed → m ≡ a_keyword k absorbed)
          → m ≡ a_keyword k absorbed
      go true e f = absurd (cc e)
      go false e f = f e
