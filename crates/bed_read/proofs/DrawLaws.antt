-- Storing values one after the other, over any type of values.
use mathlib.Core.Path.{◌≡◌, refl, sym, ap, subst, ◌∙◌}
use mathlib.Core.List.{List, ◌++◌}
use Prim.Native.Nat.{ℕ, zero, suc, ◌+◌, ◌-◌, ◌*◌, ◌<◌, ◌≤◌}
use native.Mathlib.Omega.{arith}
use lib.ListN.{length, get_or, set, take, drop, length-set, length-append, length-drop, get_or-append}
use lib.Seq.{length-take-le, get_or-take, get_or-drop, get_or-set_same, get_or-set_other, set_out}
use borrow.Rule.Slice.PartMut.{put_mid}
use Rattle.std.proofs.lemmas.List.{get_or-append_right}
use Rattle.answer.specs.Lists.{tabulate}
use Rattle.answer.proofs.Tests.{by_lt}
use Rattle.answer.proofs.Tabulate.{length_tabulate, get_d_tabulate, is_tabulate}
use Rattle.bed_read.specs.Private.{set_two, set_pairs, Drawn}

-- two places set
module _ {A : Type 0} where
  pub two_long : (out new : List A) (p : ℕ) (v w : A) → new ≡ set_two out p v w → length new ≡ length out
  unfolding set_two
  two_long out new p v w e = ap length e ∙ length-set (set out p v) (p + 1) w ∙ length-set out p v

  pub two_set : (out : List A) (p : ℕ) (v w x y : A) → v ≡ x → w ≡ y → set (set out p v) (p + 1) w ≡ set_two out p x y
  unfolding set_two
  two_set out p v w x y e f = ap (λ (z : A). set (set out p z) (p + 1) w) e ∙ ap (set (set out p x) (p + 1)) f

  -- in four lines
  pub pairs_set :
      (out out1 out2 out3 out4 : List A) (at n k : ℕ) (f : ℕ → ℕ → A) → out1 ≡ set_two out (at + k) (f 0 k) (f 0 (k + 1))
      → out2 ≡ set_two out1 (at + k + n) (f 1 k) (f 1 (k + 1)) → out3 ≡ set_two out2 (at + k + n + n) (f 2 k) (f 2 (k + 1))
      → out4 ≡ set_two out3 (at + k + n + n + n) (f 3 k) (f 3 (k + 1)) → out4 ≡ set_pairs out at n k f
  unfolding set_pairs
  pairs_set out out1 out2 out3 out4 at n k f e1 e2 e3 e4 =
      e4
      ∙ ap (λ (x : List A). set_two x (at + k + n + n + n) (f 3 k) (f 3 (k + 1))) e3
      ∙ ap (λ (x : List A). set_two (set_two x (at + k + n + n) (f 2 k) (f 2 (k + 1))) (at + k + n + n + n) (f 3 k) (f 3 (k + 1))) e2
      ∙ ap (λ (x : List A). set_two (set_two (set_two x (at + k + n) (f 1 k) (f 1 (k + 1))) (at + k + n + n) (f 2 k) (f 2 (k + 1))) (at + k + n + n + n) (f 3 k) (f 3 (k + 1))) e1

-- the length of a part
pub part_length : {A : Type 0} (at k m : ℕ) (old : List A) → at + m ≤ length old → k ≡ m → length (take k (drop at old)) ≡ m
part_length at k m old h e = length-take-le k (drop at old) (let l = length-drop at old in omega arith) ∙ e

module _ {A : Type 0} (d : A) where
  -- one store of what belongs there
  module _ (G : ℕ → A) (out : List A) (p : ℕ) (v : A) (e : v ≡ G p) where
    here : p < length out → get_or (set out p v) p d ≡ G p
    here h = get_or-set_same out p v d h ∙ e

    keeps : (q : ℕ) → get_or out q d ≡ G q → get_or (set out p v) q d ≡ G q
    keeps q r =
        by_lt q p (λ h. get_or-set_other out p q v d (λ x. omega arith) ∙ r)
        (λ h. by_lt p q (λ g. get_or-set_other out p q v d (λ x. omega arith) ∙ r) (λ g. at_p (omega arith)))
      where
        at_p : p ≡ q → get_or (set out p v) q d ≡ G q
        at_p s =
            by_lt p (length out) (λ h. subst (λ (x : ℕ). get_or (set out p v) x d ≡ G x) s (here h))
            (λ h. ap (λ (l : List A). get_or l q d) (set_out out p v h) ∙ r)

  module _ (m : ℕ) (place : ℕ → ℕ → ℕ) (value : ℕ → ℕ → A) (old : List A) where
    -- one place more of one line
    pub drawn_one :
        (k j p : ℕ) (v : A) (out : List A) → Drawn d 1 m place value old k out → k < m → j ≡ k + 1 → p ≡ place 0 k → p < length old → v ≡ value 0 k
        → Drawn d 1 m place value old j (set out p v)
    drawn_one k j p v out f h e at l s =
        record {
          bound = omega arith;
          long = length-set out p v ∙ f.long;
          draws = λ G a. (λ q r. more G a q ((f.draws G a).0 q r), puts G a);
        }
      where
        right : (G : ℕ → A) → ((i t : ℕ) → i < 1 → t < m → value i t ≡ G (place i t)) → v ≡ G p
        right G a = s ∙ a 0 k (omega arith) h ∙ ap G (sym at)

        more : (G : ℕ → A) → ((i t : ℕ) → i < 1 → t < m → value i t ≡ G (place i t)) → (q : ℕ) → get_or out q d ≡ G q → get_or (set out p v) q d ≡ G q
        more G a = keeps G out p v (right G a)

        puts :
            (G : ℕ → A) → ((i t : ℕ) → i < 1 → t < m → value i t ≡ G (place i t)) → (i t : ℕ) → i < 1 → t < j
            → get_or (set out p v) (place i t) d ≡ G (place i t)
        puts G a zero t b c =
            by_lt t k (λ x. more G a (place 0 t) ((f.draws G a).1 0 t b x))
            (λ x. let q : k ≡ t = omega arith in
            subst (λ (y : ℕ). get_or (set out p v) (place 0 y) d ≡ G (place 0 y)) q
            (subst (λ (y : ℕ). get_or (set out p v) y d ≡ G y) at (here G out p v (right G a) (omega (arith, f.long)))))
        puts G a (suc i) t b c = absurd (omega arith)

  -- all places of one line that is the whole list
  pub drawn_all :
      (m : ℕ) (value : ℕ → ℕ → A) (old : List A) (k : ℕ) (new : List A) → Drawn d 1 m (λ _ t. t) value old k new → length old ≡ m → m ≤ k
      → new ≡ tabulate m (value 0)
  drawn_all m value old k new f l e =
      is_tabulate new m (value 0) d (f.long ∙ l) (λ t h. (f.draws (value 0) first).1 0 t (omega arith) (omega arith))
    where
      first : (j t : ℕ) → j < 1 → t < m → value j t ≡ value 0 t
      first zero t h b = refl
      first (suc j) t h b = absurd (omega arith)

  -- a part that is stored is a line from its first place on
  module _ (at k m : ℕ) (f : ℕ → A) (old part : List A) (h : at + m ≤ length old) (ek : k ≡ m) (e : part ≡ tabulate (length (take k (drop at old))) f) where
    first_long : length (take at old) ≡ at
    first_long = length-take-le at old (omega arith)

    part_long : length part ≡ m
    part_long = ap length e ∙ length_tabulate (length (take k (drop at old))) f ∙ part_length at k m old h ek

    in_first : (q : ℕ) → q < at → get_or (put_mid at k old part) q d ≡ get_or old q d
    in_first q b = get_or-append (take at old) (part ++ drop k (drop at old)) d q (omega (arith, first_long)) ∙ get_or-take at old q d b

    in_part : (q : ℕ) → at ≤ q → q < at + m → get_or (put_mid at k old part) q d ≡ f (q - at)
    in_part q a b =
        get_or-append_right (take at old) (part ++ drop k (drop at old)) at q d first_long a
        ∙ get_or-append part (drop k (drop at old)) d (q - at) (omega (arith, part_long))
        ∙ ap (λ (l : List A). get_or l (q - at) d) e
        ∙ get_d_tabulate (length (take k (drop at old))) f (q - at) d (omega (arith, part_length at k m old h ek))

    in_rest : (q : ℕ) → at + m ≤ q → get_or (put_mid at k old part) q d ≡ get_or old q d
    in_rest q b =
        get_or-append_right (take at old) (part ++ drop k (drop at old)) at q d first_long (omega arith)
        ∙ get_or-append_right part (drop k (drop at old)) m (q - at) d part_long (omega arith)
        ∙ get_or-drop k (drop at old) (q - at - m) d
        ∙ get_or-drop at old (k + (q - at - m)) d
        ∙ ap (λ (x : ℕ). get_or old x d) (omega arith)

    put_long : length (put_mid at k old part) ≡ length old
    put_long =
        length-append (take at old) (part ++ drop k (drop at old))
        ∙ (let l = length-append part (drop k (drop at old)) in
        let r = length-drop k (drop at old) in
        let s = length-drop at old in omega (arith, first_long, part_long))

    pub drawn_part : Drawn d 1 m (λ _ t. at + t) (λ _ t. f t) old m (put_mid at k old part)
    drawn_part =
        record {
          bound = omega arith;
          long = put_long;
          draws = λ G a. (
            λ q r. by_lt q at (λ b. in_first q b ∙ r) (λ b. by_lt q (at + m) (λ c. there G a q b c) (λ c. in_rest q c ∙ r)),
            λ j t i b. there G a (at + t) (omega arith) (omega arith),
          );
        }
      where
        there : (G : ℕ → A) → ((j t : ℕ) → j < 1 → t < m → f t ≡ G (at + t)) → (q : ℕ) → at ≤ q → q < at + m → get_or (put_mid at k old part) q d ≡ G q
        there G a q b c = in_part q b c ∙ a 0 (q - at) (omega arith) (omega arith) ∙ ap G (omega arith)

  module _ (m : ℕ) (place : ℕ → ℕ → ℕ) (value : ℕ → ℕ → A) (old : List A) where
    -- two neighbouring places of one of four lines
    module _ (r : ℕ) (hm : r + 2 ≤ m) (j : ℕ) (hj : j < 4) (out new : List A) (p : ℕ) (at : p ≡ place j r) (next : p + 1 ≡ place j (r + 1)) (l : p + 1 < length out)
        (e : new ≡ set_two out p (value j r) (value j (r + 1))) where
      module _ (G : ℕ → A) (a : (j t : ℕ) → j < 4 → t < m → value j t ≡ G (place j t)) where
        first_right : value j r ≡ G p
        first_right = a j r hj (omega arith) ∙ ap G (sym at)

        next_right : value j (r + 1) ≡ G (p + 1)
        next_right = a j (r + 1) hj (omega arith) ∙ ap G (sym next)

        keeps_pair : (q : ℕ) → get_or out q d ≡ G q → get_or new q d ≡ G q
        unfolding set_two
        keeps_pair q f =
            ap (λ (x : List A). get_or x q d) e
            ∙ keeps G (set out p (value j r)) (p + 1) (value j (r + 1)) next_right q (keeps G out p (value j r) first_right q f)

        first_here : get_or new (place j r) d ≡ G (place j r)
        unfolding set_two
        first_here =
            subst (λ (x : ℕ). get_or new x d ≡ G x) at
            (ap (λ (x : List A). get_or x p d) e
            ∙ keeps G (set out p (value j r)) (p + 1) (value j (r + 1)) next_right p (here G out p (value j r) first_right (omega arith)))

        next_here : get_or new (place j (r + 1)) d ≡ G (place j (r + 1))
        unfolding set_two
        next_here =
            subst (λ (x : ℕ). get_or new x d ≡ G x) next
            (ap (λ (x : List A). get_or x (p + 1) d) e
            ∙ here G (set out p (value j r)) (p + 1) (value j (r + 1)) next_right (let z = length-set out p (value j r) in omega arith))

        pair_here : (t : ℕ) → r ≤ t → t < r + 2 → get_or new (place j t) d ≡ G (place j t)
        pair_here t b c =
            by_lt t (r + 1) (λ x. let q : r ≡ t = omega arith in subst (λ (y : ℕ). get_or new (place j y) d ≡ G (place j y)) q first_here)
            (λ x. let q : r + 1 ≡ t = omega arith in subst (λ (y : ℕ). get_or new (place j y) d ≡ G (place j y)) q next_here)

    -- of all four
    module _ (k r p0 p1 p2 p3 : ℕ) (out out1 out2 out3 out4 : List A) (f : Drawn d 4 m place value old k out) (hr : r ≤ k) (hm : r + 2 ≤ m)
        (at0 : p0 ≡ place 0 r) (at1 : p1 ≡ place 1 r) (at2 : p2 ≡ place 2 r) (at3 : p3 ≡ place 3 r)
        (next0 : p0 + 1 ≡ place 0 (r + 1)) (next1 : p1 + 1 ≡ place 1 (r + 1)) (next2 : p2 + 1 ≡ place 2 (r + 1)) (next3 : p3 + 1 ≡ place 3 (r + 1))
        (l0 : p0 + 1 < length old) (l1 : p1 + 1 < length old) (l2 : p2 + 1 < length old) (l3 : p3 + 1 < length old)
        (e0 : out1 ≡ set_two out p0 (value 0 r) (value 0 (r + 1))) (e1 : out2 ≡ set_two out1 p1 (value 1 r) (value 1 (r + 1)))
        (e2 : out3 ≡ set_two out2 p2 (value 2 r) (value 2 (r + 1))) (e3 : out4 ≡ set_two out3 p3 (value 3 r) (value 3 (r + 1))) where
      in0 : p0 + 1 < length out
      in0 = omega (arith, l0, f.long)

      long1 : length out1 ≡ length old
      long1 = two_long out out1 p0 (value 0 r) (value 0 (r + 1)) e0 ∙ f.long

      in1 : p1 + 1 < length out1
      in1 = omega (arith, l1, long1)

      long2 : length out2 ≡ length old
      long2 = two_long out1 out2 p1 (value 1 r) (value 1 (r + 1)) e1 ∙ long1

      in2 : p2 + 1 < length out2
      in2 = omega (arith, l2, long2)

      long3 : length out3 ≡ length old
      long3 = two_long out2 out3 p2 (value 2 r) (value 2 (r + 1)) e2 ∙ long2

      in3 : p3 + 1 < length out3
      in3 = omega (arith, l3, long3)

      module _ (G : ℕ → A) (a : (j t : ℕ) → j < 4 → t < m → value j t ≡ G (place j t)) where
        keeps3 : (q : ℕ) → get_or out3 q d ≡ G q → get_or out4 q d ≡ G q
        keeps3 = keeps_pair r hm 3 (omega arith) out3 out4 p3 at3 next3 in3 e3 G a

        keeps2 : (q : ℕ) → get_or out2 q d ≡ G q → get_or out4 q d ≡ G q
        keeps2 q x = keeps3 q (keeps_pair r hm 2 (omega arith) out2 out3 p2 at2 next2 in2 e2 G a q x)

        keeps1 : (q : ℕ) → get_or out1 q d ≡ G q → get_or out4 q d ≡ G q
        keeps1 q x = keeps2 q (keeps_pair r hm 1 (omega arith) out1 out2 p1 at1 next1 in1 e1 G a q x)

        keeps0 : (q : ℕ) → get_or out q d ≡ G q → get_or out4 q d ≡ G q
        keeps0 q x = keeps1 q (keeps_pair r hm 0 (omega arith) out out1 p0 at0 next0 in0 e0 G a q x)

        puts_four : (j t : ℕ) → j < 4 → r ≤ t → t < r + 2 → get_or out4 (place j t) d ≡ G (place j t)
        puts_four zero t h b c = keeps1 (place 0 t) (pair_here r hm 0 h out out1 p0 at0 next0 in0 e0 G a t b c)
        puts_four (suc zero) t h b c = keeps2 (place 1 t) (pair_here r hm 1 h out1 out2 p1 at1 next1 in1 e1 G a t b c)
        puts_four (suc (suc zero)) t h b c = keeps3 (place 2 t) (pair_here r hm 2 h out2 out3 p2 at2 next2 in2 e2 G a t b c)
        puts_four (suc (suc (suc zero))) t h b c = pair_here r hm 3 h out3 out4 p3 at3 next3 in3 e3 G a t b c
        puts_four (suc (suc (suc (suc j)))) t h b c = absurd (omega arith)

      drawn_four : Drawn d 4 m place value old (r + 2) out4
      drawn_four =
          record {
            bound = hm;
            long = two_long out3 out4 p3 (value 3 r) (value 3 (r + 1)) e3 ∙ long3;
            draws = λ G a. (
              λ q x. keeps0 G a q ((f.draws G a).0 q x),
              λ j t h b. by_lt t r (λ x. keeps0 G a (place j t) ((f.draws G a).1 j t h (omega arith))) (λ x. puts_four G a j t h x b),
            );
          }

  pub drawn_pairs :
      (m at n : ℕ) (value : ℕ → ℕ → A) (old : List A) (k r : ℕ) (out new : List A) → Drawn d 4 m (λ j t. at + j * n + t) value old k out → r ≤ k → r + 2 ≤ m
      → at + 3 * n + m ≤ length old → new ≡ set_pairs out at n r value → Drawn d 4 m (λ j t. at + j * n + t) value old (r + 2) new
  unfolding set_pairs
  drawn_pairs m at n value old k r out new f hr hm l e =
      drawn_four m (λ j t. at + j * n + t) value old k r (at + r) (at + r + n) (at + r + n + n) (at + r + n + n + n) out _ _ _ new f hr hm
      (omega arith) (omega arith) (omega arith) (omega arith) (omega arith) (omega arith) (omega arith) (omega arith)
      (omega arith) (omega arith) (omega arith) (omega arith) refl refl refl e

  module _ (m : ℕ) (place : ℕ → ℕ → ℕ) (value : ℕ → ℕ → A) (old : List A) (lines : ℕ) where
    pub drawn_to : (k j : ℕ) (new : List A) → Drawn d lines m place value old k new → k ≡ j → Drawn d lines m place value old j new
    drawn_to k j new f e = subst (λ (x : ℕ). Drawn d lines m place value old x new) e f
