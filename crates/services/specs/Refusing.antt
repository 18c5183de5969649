-- The text of a refusal. Assumes nothing.
use Rattle.std.specs.Prelude.{ℕ, List, codes}
use Rattle.services.specs.declared.table.Refusal.{Refusal}
use Rattle.services.specs.declared.table.Refusal.TheVariants.{Rule, Full}

-- what is printed of a refusal
abbrev pub text_of : Refusal → List ℕ
text_of Rule = codes "the service breaks the rule"
text_of Full = codes "no entry is free"
