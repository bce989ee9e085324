-- A clone of a value of one of the families is of the same family.
use Rattle.std.proofs.Common.{◌≡◌, ap}
use Rattle.standard_keywords.specs.Families.{in_family}
use Rattle.standard_keywords.specs.declared.family.Family.{Family}
use Rattle.standard_keywords.specs.declared.family.Family.TheVariants.{Applicator, Assertion, Basic, Format, PatternProperties}

abbrev pub AreClones : {A L P F B : Type 0} → (A → A → Type 0) → (L → L → Type 0) → (P → P → Type 0) → (F → F → Type 0) → (B → B → Type 0) → Family A L P F B → Family A L P F B → Type 0
AreClones a l p f b (Assertion x) (Assertion y) = a x y
AreClones a l p f b (Applicator x) (Applicator y) = l x y
AreClones a l p f b (PatternProperties x) (PatternProperties y) = p x y
AreClones a l p f b (Format x) (Format y) = f x y
AreClones a l p f b (Basic x) (Basic y) = b x y
AreClones a l p f b x y = ⊥

-- a clone has the shape of its source, if that is so in each family
pub cloned_alike : {A L P F B MA ML MP MF MB : Type 0} {cloned_a : A → A → Type 0} {cloned_l : L → L → Type 0} {cloned_p : P → P → Type 0} {cloned_f : F → F → Type 0} {cloned_b : B → B → Type 0} {shape_a : A → MA} {shape_l : L → ML} {shape_p : P → MP} {shape_f : F → MF} {shape_b : B → MB}
    → ((x y : A) → cloned_a x y → shape_a y ≡ shape_a x)
    → ((x y : L) → cloned_l x y → shape_l y ≡ shape_l x)
    → ((x y : P) → cloned_p x y → shape_p y ≡ shape_p x)
    → ((x y : F) → cloned_f x y → shape_f y ≡ shape_f x)
    → ((x y : B) → cloned_b x y → shape_b y ≡ shape_b x)
    → (m n : Family A L P F B) → AreClones cloned_a cloned_l cloned_p cloned_f cloned_b m n → in_family shape_a shape_l shape_p shape_f shape_b n ≡ in_family shape_a shape_l shape_p shape_f shape_b m
cloned_alike a l p f b (Assertion x) (Assertion y) h = ap Assertion (a x y h)
cloned_alike a l p f b (Applicator x) (Applicator y) h = ap Applicator (l x y h)
cloned_alike a l p f b (PatternProperties x) (PatternProperties y) h = ap PatternProperties (p x y h)
cloned_alike a l p f b (Format x) (Format y) h = ap Format (f x y h)
cloned_alike a l p f b (Basic x) (Basic y) h = ap Basic (b x y h)
cloned_alike a l p f b x y h = absurd h
