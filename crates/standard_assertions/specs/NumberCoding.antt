-- A JSON number is stored as the value that it is. (RFC 8259, 6)
use Rattle.std.specs.Prelude.{refl, ◌≡◌}
use Rattle.std.specs.Coded.{Coded, code_by}
use Rattle.serde_json.specs.Data.{Data, Num, number, unsigned}
use Rattle.json_values.specs.Coding.{data_code}

abbrev pub number_in : Data → Num
number_in (number n) = n
number_in _ = unsigned 0

pub number_back : (n : Num) → number_in (number n) ≡ n
number_back n = refl

abbrev pub number_code : Coded Num
number_code = code_by Data data_code number number_in number_back
