-- Laws of the tests of a value: of the code of one that has a code, and of one that may have none.
use Rattle.std.proofs.Common.{◌≡◌, refl, Bool, true, false, not, ◌&&◌, ◌||◌, cond, ◌<◌, arith, Some, None}
use Rattle.codes.specs.Value.{Width, code_of, same_or_nan}
use Rattle.bed_write.specs.Groups.{or_four}
use Rattle.bed_write.specs.Private.{number_code}

module _ {V : Type 0} (w : Width V) (flag : Bool) (missing v : V) where
  -- a value that is known to have a code: what is none of 0, 1, 2 is missing
  pub good_chosen : or_four (code_of w flag missing v) < 4 → number_code w flag v 1 ≡ or_four (code_of w flag missing v)
  unfolding code_of or_four
  good_chosen = by_tests flag (w.same v w.zero) (w.same v w.one) (w.same v w.two) (same_or_nan w v missing)
    where
      by_tests :
          (flag a b c d : Bool)
          → or_four (cond a (Some (cond flag 3 0)) (cond b (Some 2) (cond c (Some (cond flag 0 3)) (cond d (Some 1) None)))) < 4
          → cond a (cond flag 3 0) (cond b 2 (cond c (cond flag 0 3) 1))
          ≡ or_four (cond a (Some (cond flag 3 0)) (cond b (Some 2) (cond c (Some (cond flag 0 3)) (cond d (Some 1) None))))
      by_tests flag true b c d h = refl
      by_tests flag false true c d h = refl
      by_tests flag false false true d h = refl
      by_tests flag false false false true h = refl
      by_tests flag false false false false h = absurd (omega arith)

  -- the code of a value, by choices in order
  pub code_chosen :
      number_code w flag v (cond (w.same v missing) 1 (cond (w.same v v) 4 (cond (w.same missing missing) 4 1))) ≡ or_four (code_of w flag missing v)
  unfolding code_of same_or_nan or_four
  code_chosen = by_tests flag (w.same v w.zero) (w.same v w.one) (w.same v w.two) (w.same v missing) (w.same v v) (w.same missing missing)
    where
      by_tests :
          (flag a b c d e f : Bool)
          → cond a (cond flag 3 0) (cond b 2 (cond c (cond flag 0 3) (cond d 1 (cond e 4 (cond f 4 1)))))
          ≡ or_four (cond a (Some (cond flag 3 0)) (cond b (Some 2) (cond c (Some (cond flag 0 3)) (cond (d || (not e && not f)) (Some 1) None))))
      by_tests flag true b c d e f = refl
      by_tests flag false true c d e f = refl
      by_tests flag false false true d e f = refl
      by_tests flag false false false true e f = refl
      by_tests flag false false false false true f = refl
      by_tests flag false false false false false true = refl
      by_tests flag false false false false false false = refl
