-- Functions of a value of one of the families, depending on its family.
use Rattle.standard_keywords.specs.declared.family.Family.{Family}
use Rattle.standard_keywords.specs.declared.family.Family.TheVariants.{Applicator, Assertion, Basic, Format, PatternProperties}

abbrev pub by_family : {A L P F B X : Type 0} → (A → X) → (L → X) → (P → X) → (F → X) → (B → X) → Family A L P F B → X
by_family a l p f b (Assertion x) = a x
by_family a l p f b (Applicator x) = l x
by_family a l p f b (PatternProperties x) = p x
by_family a l p f b (Format x) = f x
by_family a l p f b (Basic x) = b x

-- the same family, with a value of another type
abbrev pub in_family : {A L P F B A' L' P' F' B' : Type 0} → (A → A') → (L → L') → (P → P') → (F → F') → (B → B') → Family A L P F B → Family A' L' P' F' B'
in_family a l p f b (Assertion x) = Assertion (a x)
in_family a l p f b (Applicator x) = Applicator (l x)
in_family a l p f b (PatternProperties x) = PatternProperties (p x)
in_family a l p f b (Format x) = Format (f x)
in_family a l p f b (Basic x) = Basic (b x)
