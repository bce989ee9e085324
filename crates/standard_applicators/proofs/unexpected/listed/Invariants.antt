use Rattle.std.proofs.Common.{◌≡◌, false, string_bytes, drop, ◌++◌}
use denote.Text.{Utf8}
use denote.Shadow.{shadow}
use Rattle.serde_json.specs.View.{items_view}
use Rattle.serde_json.specs.Written.{items_have_float}
use Rattle.standard_applicators.specs.Unexpected.{listed, texts_from}
use Rattle.standard_applicators.proofs.unexpected.listed.Given as goal

abbrev pub invariant-loop-item : goal.invariant-loop-item
invariant-loop-item l = shadow (Utf8 l.between)
    × (items_have_float (items_view l.items) ≡ false → items_have_float (items_view (drop l.item-index l.items)) ≡ false)
    × (items_have_float (items_view l.items) ≡ false
    → string_bytes l.text ++ texts_from l.between (items_view (drop l.item-index l.items)) ≡ listed (items_view l.items))
