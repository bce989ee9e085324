-- What holds before a function of the compiler is called: one record for each kind of call.
use Rattle.std.specs.Prelude.{Bool, List, Option, Some, String, map, slice_get, true, ℕ, ◌<◌, ◌≡◌, ◌≢◌}
use Rattle.std.specs.declared.alloc.Global.{Global}
use Rattle.serde_json.specs.Data.{Data, object}
use Rattle.serde_json.specs.View.{members_view}
use Rattle.serde_json.specs.declared.value.Value.{Value}
use Rattle.schema_traits.specs.ResolverViews.{place_of}
use Rattle.schema_traits.specs.declared.keyword.Validate.{Ghosts as KeywordMembers}
use Rattle.schema_traits.specs.declared.resolver.Resolver.{Ghosts as ResolverMembers}
use Rattle.schema_traits.specs.declared.table.KeywordTable.{Ghosts as TableMembers}
use Rattle.schema_keys.specs.KeyViews.{key_of}
use Rattle.schema_keys.specs.Readings.{IsReading}
use Rattle.schema_keys.specs.declared.key.SchemaKey.{SchemaKey}
use Rattle.schema_keys.specs.declared.values.Reading.{Reading}
use Rattle.schema_compiler.specs.Carried.{IsWell, filled}
use Rattle.schema_compiler.specs.Given.{Given, given_by}
use Rattle.schema_compiler.specs.UnderWay.{IsUnderWay}
use Rattle.schema_compiler.specs.declared.compiler.compilation.Compilation.{Compilation}
use Rattle.schema_compiler.specs.declared.compiler.setup.Compiler.{Compiler}

module _ {P S K C : Type 0} (g : Given P S K C) where
  -- the keys and nodes of a compilation are as the parts require
  abbrev pub TableIsWell : Compilation P C → Type 0
  TableIsWell c = IsWell g.task (filled g.point c)

  -- the invariant of rounds and guards holds
  abbrev pub TableIsUnderWay : Compilation P C → Type 0
  TableIsUnderWay c = IsUnderWay g.task (filled g.point c)

  -- a compilation that may be continued
  pub record IsReady (c : Compilation P C) : Type 0 where
    pub table : TableIsWell c
    pub under_way : TableIsUnderWay c

module _ {A P S T C Maker Run K : Type 0} (r : ResolverMembers A P S) (t : TableMembers T C Maker Run K) (w : KeywordMembers C Run K) (compiler : Compiler A T) where
  -- the input of the compiler
  abbrev pub g : Given P S K C
  g = given_by r t w compiler

  -- the value at the place of a key
  abbrev pub value_at : SchemaKey P → Option Data
  value_at k = g.task.parts.resolver.value (place_of k.place)

  -- the key has no number
  abbrev pub HasNoNumber : Compilation P C → SchemaKey P → Type 0
  HasNoNumber c k = (i : ℕ) → slice_get (map (key_of g.point) c.keys) i ≢ Some (key_of g.point k)

  -- one more target of references may be open, if it nests
  abbrev pub HasRoom : Compilation P C → Bool → Type 0
  HasRoom c nests = nests ≡ true → c.progress.depth < g.task.nested

  -- a reference may be compiled
  abbrev pub MayRefer : Compilation P C → Type 0
  MayRefer c = IsReady g c

  -- an edge to a key may be made; this is known of its value
  pub record MayReach (c : Compilation P C) (k : SchemaKey P) (known : Reading) : Type 0 where
    pub table : TableIsWell g c
    pub under_way : TableIsUnderWay g c
    pub reading : IsReading (value_at k) known

  -- keywords may be made of a key's object with these members
  pub record MayMake (c : Compilation P C) (k : SchemaKey P) (members : List (String Global × Value)) : Type 0 where
    pub table : TableIsWell g c
    pub under_way : TableIsUnderWay g c
    pub object : value_at k ≡ Some (object (members_view members))

  -- a key may get the next number
  pub record MayNumber (c : Compilation P C) (k : SchemaKey P) : Type 0 where
    pub table : TableIsWell g c
    pub absent : HasNoNumber c k

  -- a key may get the next number and be open, as the target of an edge that nests or not
  pub record MayOpen (c : Compilation P C) (k : SchemaKey P) (nests : Bool) : Type 0 where
    pub table : TableIsWell g c
    pub under_way : TableIsUnderWay g c
    pub absent : HasNoNumber c k
    pub room : HasRoom c nests

  -- the same for a key that is compiled at once; this is known of its value
  pub record MayCompile (c : Compilation P C) (k : SchemaKey P) (nests : Bool) (known : Reading) : Type 0 where
    pub table : TableIsWell g c
    pub under_way : TableIsUnderWay g c
    pub absent : HasNoNumber c k
    pub room : HasRoom c nests
    pub reading : IsReading (value_at k) known
