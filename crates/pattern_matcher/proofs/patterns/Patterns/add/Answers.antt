use Rattle.std.proofs.Common.{List, Some, [], ap, length, ◌++◌, ◌∙◌, ◌∷◌, ◌≡◌}
use Rattle.std.specs.HashMap.{get_by_text}
use Rattle.std.specs.Prelude.{bytes_eq, string_bytes}
use Rattle.std.specs.Map.{update}
use Rattle.std.proofs.lemmas.Map.Text.{hash_map_updates_text}
use Rattle.theory_definitions.specs.Instance.{Text}
use Rattle.pattern_matcher.proofs.Tables.{placed_more, stays_same}
use Rattle.pattern_matcher.proofs.patterns.Patterns.add.Goals as goal

pub returns-then-contains_key-clause-added : goal.returns-then-contains_key-clause-added
returns-then-contains_key-clause-added c =
    rw (← c.self.view_is) (stays_same c.self.inside.read.items _ c.self.invariant c.args.pattern.now c.if-contains_key.ensures)

pub invariant_of-self-2 : goal.invariant_of-self-2
invariant_of-self-2 c =
    let texts : List Text = c.self.inside.read.items in
    let name : string_bytes c.in_ok-name.name ≡ c.args.pattern.now = c.in_ok-name.ensures.ok in
    let last : c.len.result ≡ length texts = c.len.ensures ∙ (c.reserve.new.self.ok.0 ∙ ap length c.in_ok-reserve.ensures.items) in
    let listed : c.push.new.self.items ≡ texts ++ c.args.pattern.now ∷ [] =
    c.in_ok-push.ensures.items ∙ (ap (λ ts. ts ++ c.in_ok-read.read ∷ []) c.in_ok-reserve.ensures.items ∙ ap (λ p. texts ++ p ∷ []) c.in_ok-read.ensures.source) in
    let updated : (t : Text) → get_by_text c.insert.new.self t ≡ update bytes_eq (get_by_text c.self.inside.places) c.args.pattern.now (Some (length texts)) t =
    λ t. rw (name, last) at (hash_map_updates_text (string_bytes c.in_ok-name.name) c.self.inside.places c.insert.new.self (Some c.len.result) c.in_ok-insert.ensures.updates t) in
    rw listed (placed_more texts c.args.pattern.now _ _ c.self.invariant updated)
