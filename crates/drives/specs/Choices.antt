-- What one of three parts means.
use Rattle.drives.specs.declared.one_of.OneOf.{OneOf}
use Rattle.drives.specs.declared.one_of.OneOf.TheVariants.{First, Second, Third}

-- the meaning of the part that was chosen
abbrev pub chosen : {X Y Z M : Type 0} → (X → M) → (Y → M) → (Z → M) → OneOf X Y Z → M
chosen f g h (First x) = f x
chosen f g h (Second y) = g y
chosen f g h (Third z) = h z
