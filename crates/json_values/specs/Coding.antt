-- A JSON value as a list of tokens, and back, so that a proof can distinguish two values if a
-- model's value is a JSON value. The tokens build the value on a stack. (RFC 8259, section 2: a
-- value is a literal name, a number, a string, an array or an object)
use Rattle.std.specs.Prelude.{Bool, List, [], cond, false, pos, refl, true, ℕ, ℤ, ◌==◌, ◌≡◌, ◌∷◌}
use Rattle.std.specs.Coded.{Coded, code_by, coded_list, coded_ℕ, coded_ℤ, coded×}
use Rattle.std.specs.Float.{Float, nan}
use base.Stored.{coded_float}
use mathlib.Core.Path.{ap, ◌∙◌}
use Rattle.serde_json.specs.Data.{Data, Items, Members, array, boolean, float, item, member, negative, no_items, no_members, null, number, object, string, unsigned}

-- a token: puts a value on the stack, or combines the values on top of it
pub data Token : Type 0 where
  a_null no_item an_item an_array no_member an_object : Token
  a_truth : Bool → Token
  a_natural : ℕ → Token
  a_negative : ℤ → Token
  a_fraction : Float → Token
  a_text : List ℕ → Token
  a_member : List ℕ → Token

-- an entry of the stack
pub data Built : Type 0 where
  built : Data → Built
  items : Items → Built
  members : Members → Built

-- ---- the tokens of a value, before further tokens

abbrev mutual
  pub put : Data → List Token → List Token
  put null rest = a_null ∷ rest
  put (boolean b) rest = a_truth b ∷ rest
  put (number (unsigned n)) rest = a_natural n ∷ rest
  put (number (negative z)) rest = a_negative z ∷ rest
  put (number (float x)) rest = a_fraction x ∷ rest
  put (string t) rest = a_text t ∷ rest
  put (array ds) rest = put_items ds (an_array ∷ rest)
  put (object ms) rest = put_members ms (an_object ∷ rest)

  pub put_items : Items → List Token → List Token
  put_items no_items rest = no_item ∷ rest
  put_items (item d ds) rest = put_items ds (put d (an_item ∷ rest))

  pub put_members : Members → List Token → List Token
  put_members no_members rest = no_member ∷ rest
  put_members (member k d ms) rest = put_members ms (put d (a_member k ∷ rest))

-- ---- the value of tokens

abbrev pub on_top : Token → List Built → List Built
on_top a_null st = built null ∷ st
on_top (a_truth b) st = built (boolean b) ∷ st
on_top (a_natural n) st = built (number (unsigned n)) ∷ st
on_top (a_negative z) st = built (number (negative z)) ∷ st
on_top (a_fraction x) st = built (number (float x)) ∷ st
on_top (a_text t) st = built (string t) ∷ st
on_top no_item st = items no_items ∷ st
on_top no_member st = members no_members ∷ st
on_top an_item (built d ∷ items ds ∷ st) = items (item d ds) ∷ st
on_top an_array (items ds ∷ st) = built (array ds) ∷ st
on_top (a_member k) (built d ∷ members ms ∷ st) = members (member k d ms) ∷ st
on_top an_object (members ms ∷ st) = built (object ms) ∷ st
on_top _ st = st

abbrev pub built_by : List Token → List Built → List Built
built_by [] st = st
built_by (t ∷ ts) st = built_by ts (on_top t st)

abbrev pub top : List Built → Data
top (built d ∷ st) = d
top _ = null

abbrev pub tokens_of : Data → List Token
tokens_of d = put d []

abbrev pub data_of : List Token → Data
data_of ts = top (built_by ts [])

-- ---- there and back

mutual
  back : (d : Data) (rest : List Token) (st : List Built) → built_by (put d rest) st ≡ built_by rest (built d ∷ st)
  back null rest st = refl
  back (boolean b) rest st = refl
  back (number (unsigned n)) rest st = refl
  back (number (negative z)) rest st = refl
  back (number (float x)) rest st = refl
  back (string t) rest st = refl
  back (array ds) rest st = back_items ds (an_array ∷ rest) st
  back (object ms) rest st = back_members ms (an_object ∷ rest) st

  back_items : (ds : Items) (rest : List Token) (st : List Built) → built_by (put_items ds rest) st ≡ built_by rest (items ds ∷ st)
  back_items no_items rest st = refl
  back_items (item d ds) rest st = back_items ds (put d (an_item ∷ rest)) st ∙ back d (an_item ∷ rest) (items ds ∷ st)

  back_members : (ms : Members) (rest : List Token) (st : List Built) → built_by (put_members ms rest) st ≡ built_by rest (members ms ∷ st)
  back_members no_members rest st = refl
  back_members (member k d ms) rest st = back_members ms (put d (a_member k ∷ rest)) st ∙ back d (a_member k ∷ rest) (members ms ∷ st)

pub data_back : (d : Data) → data_of (tokens_of d) ≡ d
data_back d = ap top (back d [] [])

-- ---- the code of a token

-- the number of the token's kind, and the values that it holds
abbrev pub Parts : Type 0
Parts = ℕ × (ℕ × (ℤ × (Float × List ℕ)))

abbrev pub plain : ℕ → Parts
plain k = (k, (0, (pos 0, (nan, []))))

abbrev pub to_parts : Token → Parts
to_parts a_null = plain 0
to_parts no_item = plain 1
to_parts an_item = plain 2
to_parts an_array = plain 3
to_parts no_member = plain 4
to_parts an_object = plain 5
to_parts (a_truth true) = plain 6
to_parts (a_truth false) = plain 7
to_parts (a_natural n) = (8, (n, (pos 0, (nan, []))))
to_parts (a_negative z) = (9, (0, (z, (nan, []))))
to_parts (a_fraction x) = (10, (0, (pos 0, (x, []))))
to_parts (a_text t) = (11, (0, (pos 0, (nan, t))))
to_parts (a_member t) = (12, (0, (pos 0, (nan, t))))

abbrev pub from_parts : Parts → Token
from_parts p =
    cond (p.0 == 0) a_null (cond (p.0 == 1) no_item (cond (p.0 == 2) an_item (cond (p.0 == 3) an_array (cond (p.0 == 4) no_member
    (cond (p.0 == 5) an_object (cond (p.0 == 6) (a_truth true) (cond (p.0 == 7) (a_truth false) (cond (p.0 == 8) (a_natural p.1.0)
    (cond (p.0 == 9) (a_negative p.1.1.0) (cond (p.0 == 10) (a_fraction p.1.1.1.0) (cond (p.0 == 11) (a_text p.1.1.1.1)
    (a_member p.1.1.1.1))))))))))))

pub parts_back : (t : Token) → from_parts (to_parts t) ≡ t
parts_back a_null = refl
parts_back no_item = refl
parts_back an_item = refl
parts_back an_array = refl
parts_back no_member = refl
parts_back an_object = refl
parts_back (a_truth true) = refl
parts_back (a_truth false) = refl
parts_back (a_natural n) = refl
parts_back (a_negative z) = refl
parts_back (a_fraction x) = refl
parts_back (a_text t) = refl
parts_back (a_member t) = refl

abbrev pub parts_code : Coded Parts
parts_code = coded× coded_ℕ (coded× coded_ℕ (coded× coded_ℤ (coded× coded_float (coded_list coded_ℕ))))

-- a value is stored as its tokens
abbrev pub data_code : Coded Data
data_code = code_by (List Token) (coded_list (code_by Parts parts_code to_parts from_parts parts_back)) tokens_of data_of data_back
