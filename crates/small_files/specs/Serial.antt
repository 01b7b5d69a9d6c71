-- The file of a serial number, for so many animals and markers. Definitions only.
use Rattle.std.specs.Prelude.{List, ℕ, ◌+◌, ◌-◌, ◌*◌, ◌/◌, ◌%◌, ◌^◌}
use Rattle.bed_write.specs.Writing.{bed_file}

-- "the base-4 digits of s", n of them: the digit at place p, places counted from 0, and that at place 0 "most significant"
unfoldable pub digit : ℕ → ℕ → ℕ → ℕ
digit n s p = s / 4 ^ (n - 1 - p) % 4

-- "codes, marker by marker, are the base-4 digits of s, first animal of the first marker most significant": there are as many digits as calls, and
-- before that of animal a at marker m there are the m * iids of the markers before, and a of its own marker
unfoldable pub serial_code : ℕ → ℕ → ℕ → ℕ → ℕ → ℕ
serial_code iids sids s a m = digit (iids * sids) s (m * iids + a)

-- "serial number s gives the canonical file whose codes" are these
unfoldable pub serial_file : ℕ → ℕ → ℕ → List ℕ
serial_file iids sids s = bed_file iids sids (serial_code iids sids s)
