-- A schema has one root's key, which depends on the resolver and the options alone.
use Rattle.std.proofs.Common.{◌≡◌, sym, ◌∙◌, ap}
use Rattle.std.specs.Prelude.{Some, Ok, Result, Option}
use Rattle.serde_json.specs.Data.{Data}
use Rattle.theory_definitions.specs.Drafts.{Draft}
use Rattle.theory_definitions.specs.Matching.{Matcher}
use Rattle.theory_definitions.specs.Resolving.{Entrance, Resolver}
use Rattle.theory_definitions.specs.Making.{Table}
use Rattle.theory_definitions.specs.Keywords.{Keywords}
use Rattle.theory_definitions.specs.Parts.{Parts}
use Rattle.theory_definitions.specs.Plan.{Key}
use Rattle.theory_meaning.specs.Root.{IsRoot, base_of, key_at}
use Rattle.schema_validator.specs.Handed.{Options, parts_of}
use Rattle.schema_validator.specs.Roots.{IsRootKey}

ok_is : {A E : Type 0} (r : Result A E) (a b : A) → r ≡ Ok a → r ≡ Ok b → a ≡ b
ok_is r a b p q = cc

pub some_is : {A : Type 0} (o : Option A) (a b : A) → o ≡ Some a → o ≡ Some b → a ≡ b
some_is o a b p q = cc

module _ {S K R : Type 0} (w : Parts S K R) (schema : Data) where
  pub root_key_of : (k : Key S) → IsRoot w schema k → IsRootKey w schema k
  root_key_of k r = record { draft = r.draft; entrance = r.entrance; drafted = r.drafted; entered = r.entered; is_key = r.is_key }

  -- any two are equal
  pub one_root_key : (a b : Key S) → IsRootKey w schema a → IsRootKey w schema b → a ≡ b
  one_root_key a b p q =
      let same : p.draft ≡ q.draft = ok_is _ p.draft q.draft p.drafted q.drafted in
      let found : p.entrance ≡ q.entrance = some_is _ p.entrance q.entrance p.entered (ap (λ (d : Draft). w.resolver.root (base_of w d schema)) same ∙ q.entered) in
      p.is_key ∙ ap (λ (e : Entrance S). key_at w e p.draft) found ∙ ap (λ (d : Draft). key_at w q.entrance d) same ∙ sym q.is_key

module _ {S K K' R R' : Type 0} (resolver : Resolver S) (table : Table K) (table' : Table K') (matcher matcher' : Matcher) (keywords : Keywords K R) (keywords' : Keywords K' R') (options : Options) (schema : Data) where
  abbrev w : Parts S K R
  w = parts_of resolver table matcher keywords options

  abbrev w' : Parts S K' R'
  w' = parts_of resolver table' matcher' keywords' options

  pub root_too : (k : Key S) → IsRoot w schema k → IsRoot w' schema k
  root_too k r = record { draft = r.draft; entrance = r.entrance; drafted = r.drafted; entered = r.entered; valued = r.valued; is_key = r.is_key }

  pub root_key_too : (k : Key S) → IsRootKey w schema k → IsRootKey w' schema k
  root_key_too k r = record { draft = r.draft; entrance = r.entrance; drafted = r.drafted; entered = r.entered; is_key = r.is_key }
