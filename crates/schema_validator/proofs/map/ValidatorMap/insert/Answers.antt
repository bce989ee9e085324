use Rattle.std.proofs.Common.{◌∙◌, ap, cond, sym}
use Rattle.std.specs.Prelude.{Some, bytes_eq, string_bytes}
use Rattle.std.proofs.lemmas.Map.Text.{btree_map_updates_text}
use Rattle.schema_validator.specs.MapViews.{at_pointer}
use Rattle.schema_validator.proofs.MapEntries.{found_by}
use Rattle.schema_validator.proofs.map.ValidatorMap.insert.Goals as goal

pub returns : goal.returns
returns g c = record {
  set = λ q.
      let bs = string_bytes c.args.pointer in
      sym (found_by q c.insert.new.self.entries)
      ∙ btree_map_updates_text bs c.self.inside.entries c.insert.new.self (Some c.args.validator) c.in_ok-insert.ensures.updates q
      ∙ ap (λ o. cond (bytes_eq bs q) (Some c.args.validator) o) (found_by q c.self.inside.entries.entries ∙ ap (λ es. at_pointer es q) c.self.view_is);
  unchanged = tt;
}
