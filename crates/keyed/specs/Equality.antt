-- Equality of keys: equal keys are the same; and the proofs that it is so for numbers and for optional keys, which stand here since the types' impls hold them. Assumes nothing.
use Rattle.std.specs.Prelude.{◌≡◌, ℕ, Bool, Some, None, ◌↔◌, ◌==◌, IsTrue, refl}
use Rattle.std.specs.Option.{option_eq}
use Rattle.std.proofs.Common.{ap}
use Rattle.std.proofs.lemmas.Bool.{eqb-true, eq-eqb}

-- a test that answers true exactly for two keys that are the same
abbrev pub TellsApart : {K : Type 0} → (K → K → Bool) → Type 0
TellsApart {K = K} equal = (a b : K) → IsTrue (equal a b) ↔ (a ≡ b)

pub numbers : TellsApart (λ (a b : ℕ). a == b)
numbers a b = (eqb-true a b, eq-eqb a b)

pub options : {K : Type 0} (equal : K → K → Bool) → TellsApart equal → TellsApart (option_eq equal)
options equal tells None None = ((λ _. refl), (λ _. refl))
options equal tells None (Some b) = ((λ e. cc), (λ e. cc))
options equal tells (Some a) None = ((λ e. cc), (λ e. cc))
options equal tells (Some a) (Some b) = ((λ e. ap Some ((tells a b).0 e)), (λ e. (tells a b).1 (let same : a ≡ b = cc in same)))
