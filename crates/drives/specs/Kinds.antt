-- What a number of the table stands for.
use Rattle.std.specs.Prelude.{ℕ, Ok, Err, Result, if◌then◌else◌, ◌==◌}
use Rattle.drives.specs.declared.fields.Malformed.{Malformed}
use Rattle.drives.specs.declared.plan.ManagerKind.{ManagerKind}
use Rattle.drives.specs.declared.plan.ManagerKind.TheVariants.{Lowest, Rotation, Everyone}

abbrev pub manager_in : ℕ → Result ManagerKind Malformed
manager_in number = if number == 1 then Ok Lowest else (if number == 2 then Ok Rotation else (if number == 3 then Ok Everyone else Err (record {})))
