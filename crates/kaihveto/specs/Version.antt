-- The boundary's version: the two numbers that include/kaihveto.h names, in one. Assumes nothing.
use Rattle.std.specs.Prelude.{ℕ, ◌+◌, ◌*◌}

abbrev pub version : ℕ → ℕ → ℕ
version major minor = 65536 * major + minor
