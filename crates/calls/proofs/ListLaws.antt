-- Laws of what the entries of lists add to where a call stands.
use mathlib.Core.Path.{◌≡◌, refl, sym, ap, subst, ◌∙◌}
use mathlib.Core.Bool.{Bool, true, false, not, cond}
use mathlib.Core.List.{List}
use Rattle.std.specs.Prelude.{min, None, nat_lt}
use Prim.Native.Nat.{ℕ, zero, suc, ◌+◌, ◌-◌, ◌*◌, ◌/◌, ◌%◌, ◌^◌, ◌<◌, ◌≤◌}
use native.Mathlib.Omega.{arith}
use borrow.Author.Tests.{le-ltb, lt-ltb}
use lib.IntN.{ℤ, pos}
use lib.ListN.{length, get_or, set, take, drop, length-set, length-take, length-drop}
use lib.Seq.{get_or-set_same, get_or-set_other, get_or-take, get_or-drop}
use lib.Signed.{mag}
use mir.Syntax.{w64}
use mir.Val.{of_z, to_z}
use Rattle.answer.proofs.Tests.{by_lt, both_true}
use Rattle.answer.proofs.Tabulate.{length_tabulate, get_d_tabulate, tabulate_ext, is_tabulate}
use Rattle.codes.specs.Code.{code_at}
use Rattle.entries.specs.Entry.{means, first_bad}
use Rattle.entries.proofs.EntryLaws.{means_back, means_below, all_good, order_means}
use Rattle.calls.specs.Calls.{call_code}
use Rattle.calls.specs.declared.Part.{Part}
use Rattle.calls.specs.declared.Shape.{Shape}
use Rattle.calls.specs.declared.parts.Parts.{Parts}
use Rattle.calls.specs.Places.{Shaped, is_block, part_byte, part_place, in_word, IsPart}
use Rattle.calls.specs.Lists.{count_of, entry_number, entry_byte, entry_place, is_along_block, begun_with, with_bytes, with_places, Ready, IsEntryPart, EntryParts, Inside}
use Rattle.calls.proofs.PlaceLaws.{iid_byte_law, sid_byte_law, pair_byte, pair_inside, pair_code}

-- ---- a list that begins with f 0, f 1, .. f (n - 1)
module _ (f : ℕ → ℕ) (old : List ℕ) where
  abbrev at : ℕ → ℕ → ℕ
  at n k = cond (nat_lt k n) (f k) (get_or old k 0)

  before : (n k : ℕ) → k < n → at n k ≡ f k
  before n k h = ap (λ (b : Bool). cond b (f k) (get_or old k 0)) (lt-ltb k n h)

  after : (n k : ℕ) → n ≤ k → at n k ≡ get_or old k 0
  after n k h = ap (λ (b : Bool). cond b (f k) (get_or old k 0)) (le-ltb k n h)

  pub begun_long : (n : ℕ) → length (begun_with n f old) ≡ 2048
  unfolding begun_with
  begun_long n = length_tabulate 2048 (at n)

  pub begun_there : (n k : ℕ) → k < n → k < 2048 → get_or (begun_with n f old) k 0 ≡ f k
  unfolding begun_with
  begun_there n k h b = get_d_tabulate 2048 (at n) k 0 b ∙ before n k h

  pub begun_none : length old ≡ 2048 → old ≡ begun_with 0 f old
  unfolding begun_with
  begun_none l = is_tabulate old 2048 (at 0) 0 l (λ k b. sym (after 0 k (omega arith)))

  pub begun_more : (n v : ℕ) (l : List ℕ) → l ≡ begun_with n f old → n < 2048 → v ≡ f n → set l n v ≡ begun_with (n + 1) f old
  unfolding begun_with
  begun_more n v l e h s =
      is_tabulate (set l n v) 2048 (at (n + 1)) 0 (length-set l n v ∙ long) there
    where
      long : length l ≡ 2048
      long = ap length e ∙ begun_long n

      other : (k : ℕ) → k < 2048 → (k ≡ n → ⊥) → get_or (set l n v) k 0 ≡ at n k
      other k b d = get_or-set_other l n k v 0 d ∙ ap (λ (x : List ℕ). get_or x k 0) e ∙ get_d_tabulate 2048 (at n) k 0 b

      there : (k : ℕ) → k < 2048 → get_or (set l n v) k 0 ≡ at (n + 1) k
      there k b =
          by_lt k n (λ c. other k b (λ x. omega arith) ∙ before n k c ∙ sym (before (n + 1) k (omega arith)))
          (λ c. by_lt n k (λ d. other k b (λ x. omega arith) ∙ after n k c ∙ sym (after (n + 1) k (omega arith)))
          (λ d. let q : n ≡ k = omega arith in
          subst (λ (x : ℕ). get_or (set l n v) x 0 ≡ at (n + 1) x) q (get_or-set_same l n v 0 (omega (arith, h, long)) ∙ s ∙ sym (before (n + 1) n (omega arith)))))

  -- past the end there is nothing to begin with
  pub begun_all : (n m : ℕ) (l : List ℕ) → l ≡ begun_with n f old → n ≡ min m 2048 → l ≡ begun_with m f old
  unfolding begun_with
  begun_all n m l e q = e ∙ tabulate_ext 2048 (at n) (at m) same
    where
      same : (j : ℕ) → j < 2048 → at n j ≡ at m j
      same j b = by_lt j n (λ h. before n j h ∙ sym (before m j (omega arith))) (λ h. after n j h ∙ sym (after m j (omega arith)))

-- ---- what an entry adds, as the machine holds it
pub entry_back :
    (b : Bool) (w count : ℕ) (z : ℤ) (part : Part) → mag z < 2 ^ 63 → IsPart b w (means count (to_z w64 (of_z w64 z))) part → IsPart b w (means count z) part
entry_back b w count z part f p = subst (λ (n : ℕ). IsPart b w n part) (means_back count z (record { sfits = f }) _ refl) p

-- one entry more is resolved
pub resolved_more :
    (shape : Shape) (animals : Bool) (list : List ℤ) (k : ℕ) (bytes bytes' places places' : List ℕ) (part : Part) → mag (get_or list k (pos 0)) < 2 ^ 63 → k < 2048
    → IsPart (is_block shape.mode1 animals) shape.width (means (count_of animals shape) (to_z w64 (of_z w64 (get_or list k (pos 0))))) part
    → (bytes ≡ begun_with k (λ j. in_word (entry_byte shape animals list j)) bytes') × (places ≡ begun_with k (entry_place shape animals list) places')
    → (set bytes k part.byte ≡ begun_with (k + 1) (λ j. in_word (entry_byte shape animals list j)) bytes') × (set places k part.place ≡ begun_with (k + 1) (entry_place shape animals list) places')
unfolding entry_byte entry_place entry_number
resolved_more shape animals list k bytes bytes' places places' part f h p i =
    let q = entry_back _ _ _ _ part f p in
    (begun_more _ bytes' k _ bytes i.0 h q.byte_is, begun_more _ places' k _ places i.1 h q.place_is)

-- what the number of an animal or a marker adds to the byte fits a word
part_byte_law :
    (file : List ℕ) (shape : Shape) → Shaped file shape → length file < 2 ^ 64 → (animals : Bool) (n : ℕ) → n < count_of animals shape → n < 2 ^ 64
    → in_word (part_byte (is_block shape.mode1 animals) shape.width n) ≡ part_byte (is_block shape.mode1 animals) shape.width n
part_byte_law file shape s l true n h w = iid_byte_law file shape s l n h w
part_byte_law file shape s l false n h w = sid_byte_law file shape s l n h w

-- ---- the entries of a good list of animals (true) or of markers
module _ (shape : Shape) (animals : Bool) (list : List ℤ) (g : first_bad (count_of animals shape) list ≡ None) where
  number_below : (k : ℕ) → k < length list → entry_number shape animals list k < count_of animals shape
  unfolding entry_number
  number_below k h = means_below (count_of animals shape) (get_or list k (pos 0)) (all_good (count_of animals shape) list k g h)

  byte_fits :
      (file : List ℕ) → Shaped file shape → length file < 2 ^ 64 → count_of animals shape < 2 ^ 64 → (k : ℕ) → k < length list
      → in_word (entry_byte shape animals list k) ≡ entry_byte shape animals list k
  unfolding entry_byte
  byte_fits file s l c k h = let b = number_below k h in part_byte_law file shape s l animals (entry_number shape animals list k) b (omega arith)

  -- as the machine holds it
  entry_there :
      (file : List ℕ) → Shaped file shape → length file < 2 ^ 64 → count_of animals shape < 2 ^ 64 → (k : ℕ) → k < length list → mag (get_or list k (pos 0)) < 2 ^ 63
      → (part : Part) → IsPart (is_block shape.mode1 animals) shape.width (means (count_of animals shape) (to_z w64 (of_z w64 (get_or list k (pos 0))))) part
      → IsEntryPart shape animals list k part
  unfolding entry_byte entry_place entry_number
  entry_there file s l c k h f part p =
      let q = entry_back _ _ _ _ part f p in record { byte_is = q.byte_is ∙ byte_fits file s l c k h; place_is = q.place_is }

-- a block adds no place
pub block_place : (shape : Shape) (animals : Bool) (list : List ℤ) (k : ℕ) → is_block shape.mode1 animals ≡ true → entry_place shape animals list k ≡ 0
unfolding entry_place part_place
block_place shape animals list k e = ap (λ (b : Bool). part_place b (entry_number shape animals list k)) e

-- ---- the items of a block, in order
module _ (shape : Shape) (animals : Bool) (list : List ℤ) (a : is_along_block shape animals list ≡ true) where
  are_items : is_block shape.mode1 animals ≡ false
  are_items = off (is_block shape.mode1 animals) (both_true _ _ a).0
    where
      off : (b : Bool) → not b ≡ true → b ≡ false
      off true e = sym e
      off false e = refl

  along_number : (k : ℕ) → k < length list → entry_number shape animals list k ≡ k
  unfolding entry_number
  along_number k h = order_means (count_of animals shape) list k (both_true _ _ a).1 h

  along_byte : (k : ℕ) → k < length list → entry_byte shape animals list k ≡ k / 4
  unfolding entry_byte part_byte
  along_byte k h = ap (λ (b : Bool). part_byte b shape.width (entry_number shape animals list k)) are_items ∙ ap (λ (n : ℕ). n / 4) (along_number k h)

  along_place : (k : ℕ) → k < length list → entry_place shape animals list k ≡ k % 4
  unfolding entry_place part_place
  along_place k h = ap (λ (b : Bool). part_place b (entry_number shape animals list k)) are_items ∙ ap (λ (n : ℕ). n % 4) (along_number k h)

other_kind : (m animals : Bool) → is_block m (not animals) ≡ false → is_block m animals ≡ true
other_kind true true e = sym e
other_kind true false e = refl
other_kind false true e = refl
other_kind false false e = sym e

-- ---- an animal and a marker, each below its count: their call
module _ (file : List ℕ) (shape : Shape) (s : Shaped file shape) where
  -- of the kind that the outer list has (animals: true) and of the other kind
  kinds_inside :
      (animals : Bool) (x y : ℕ) → x < count_of animals shape → y < count_of (not animals) shape
      → part_byte (is_block shape.mode1 animals) shape.width x + part_byte (is_block shape.mode1 (not animals)) shape.width y < length file
  kinds_inside true x y h k = pair_inside file shape s x y h k
  kinds_inside false x y h k = let z = pair_inside file shape s y x k h in omega (arith, z)

  kinds_code :
      (animals : Bool) (x y : ℕ) → x < count_of animals shape → y < count_of (not animals) shape
      → code_at (get_or file (part_byte (is_block shape.mode1 animals) shape.width x + part_byte (is_block shape.mode1 (not animals)) shape.width y) 0)
      (part_place (is_block shape.mode1 animals) x + part_place (is_block shape.mode1 (not animals)) y)
      ≡ call_code file shape.iids shape.sids (cond animals x y) (cond animals y x)
  kinds_code true x y h k = pair_code file shape s x y h k
  kinds_code false x y h k =
      ap (λ (b : ℕ). code_at (get_or file b 0) (part_place (is_block shape.mode1 false) x + part_place (is_block shape.mode1 true) y)) (omega arith)
      ∙ ap (code_at (get_or file (pair_byte file shape s y x k h) 0)) (omega arith)
      ∙ pair_code file shape s y x k h

two_places : (m animals : Bool) (x y : ℕ) → part_place (is_block m animals) x + part_place (is_block m (not animals)) y < 4
unfolding part_place
two_places true true x y = omega arith
two_places true false x y = omega arith
two_places false true x y = omega arith
two_places false false x y = omega arith

-- ---- the places of a line
module _ (file : List ℕ) (shape : Shape) (animals : Bool) (outer inner : List ℤ) (r : Ready file shape animals outer inner) where
  kind_fits : (kind : Bool) → count_of kind shape < 2 ^ 64
  kind_fits true = r.iids_fit
  kind_fits false = r.sids_fit

  -- what entry o of the outer list adds
  pub outer_entry :
      length file < 2 ^ 64 → (o : ℕ) → o < length outer → mag (get_or outer o (pos 0)) < 2 ^ 63
      → (part : Part) → IsPart (is_block shape.mode1 animals) shape.width (means (count_of animals shape) (to_z w64 (of_z w64 (get_or outer o (pos 0))))) part
      → IsEntryPart shape animals outer o part
  outer_entry l o h f part p = entry_there shape animals outer r.outer_good file r.shaped l (kind_fits animals) o h f part p

  -- what a part of the inner list adds, by the items of a kind that is this one
  module _ (l : length file < 2 ^ 64) (kind : Bool) (q : kind ≡ not animals) (from until : ℕ) (h : from ≤ until) (u : until ≤ length inner) (room : until - from ≤ 2048)
      (old : List ℕ) where
    abbrev slice : List ℤ
    slice = take (until - from) (drop from inner)

    slice_long : length slice ≡ until - from
    slice_long = let a = length-take (until - from) (drop from inner) in let b = length-drop from inner in omega arith

    -- entry k of the part is entry from + k of the list
    shifted : (f : ℕ → ℕ) (k : ℕ) → k < until - from → get_or (begun_with (length slice) f old) k 0 ≡ f k
    shifted f k b = begun_there f old (length slice) k (omega (arith, b, slice_long)) (omega arith)

    numbered : (k : ℕ) → k < until - from → entry_number shape kind slice k ≡ entry_number shape (not animals) inner (from + k)
    unfolding entry_number
    numbered k b =
        ap (λ (z : ℤ). means (count_of kind shape) z) (get_or-take (until - from) (drop from inner) k (pos 0) b ∙ get_or-drop from inner k (pos 0))
        ∙ ap (λ (x : Bool). means (count_of x shape) (get_or inner (from + k) (pos 0))) q

    inner_byte : (k : ℕ) → k < until - from → get_or (with_bytes shape kind slice old) k 0 ≡ entry_byte shape (not animals) inner (from + k)
    unfolding entry_byte
    inner_byte k b =
        shifted (λ j. in_word (entry_byte shape kind slice j)) k b
        ∙ ap (λ (n : ℕ). in_word (part_byte (is_block shape.mode1 kind) shape.width n)) (numbered k b)
        ∙ ap (λ (x : Bool). in_word (part_byte (is_block shape.mode1 x) shape.width (entry_number shape (not animals) inner (from + k)))) q
        ∙ byte_fits shape (not animals) inner r.inner_good file r.shaped l (kind_fits (not animals)) (from + k) (omega arith)

    inner_place : (k : ℕ) → k < until - from → get_or (with_places shape kind slice old) k 0 ≡ entry_place shape (not animals) inner (from + k)
    unfolding entry_place
    inner_place k b =
        shifted (entry_place shape kind slice) k b
        ∙ ap (λ (n : ℕ). part_place (is_block shape.mode1 kind) n) (numbered k b)
        ∙ ap (λ (x : Bool). part_place (is_block shape.mode1 x) (entry_number shape (not animals) inner (from + k))) q

  pub inner_entries :
      length file < 2 ^ 64 → (kind : Bool) → kind ≡ not animals → (from until : ℕ) → from ≤ until → until ≤ length inner → until - from ≤ 2048 → (old new : Parts)
      → (new.bytes ≡ with_bytes shape kind (take (until - from) (drop from inner)) old.bytes) × (new.places ≡ with_places shape kind (take (until - from) (drop from inner)) old.places)
      → EntryParts shape (not animals) inner from until new
  inner_entries l kind q from until h u s old new e =
      record {
        byte_is = λ k b. ap (λ (x : List ℕ). get_or x k 0) e.0 ∙ inner_byte l kind q from until h u s old.bytes k b;
        place_is = λ k b. ap (λ (x : List ℕ). get_or x k 0) e.1 ∙ inner_place l kind q from until h u s old.places k b;
      }

  line_inside : (o t : ℕ) → o < length outer → t < length inner → entry_byte shape animals outer o + entry_byte shape (not animals) inner t < length file
  unfolding entry_byte
  line_inside o t ho ht =
      kinds_inside file shape r.shaped animals _ _ (number_below shape animals outer r.outer_good o ho) (number_below shape (not animals) inner r.inner_good t ht)

  -- the call for place t of line o
  abbrev pub line_call : ℕ → ℕ → ℕ
  line_call o t =
      call_code file shape.iids shape.sids (cond animals (entry_number shape animals outer o) (entry_number shape (not animals) inner t))
      (cond animals (entry_number shape (not animals) inner t) (entry_number shape animals outer o))

  line_code :
      (o t : ℕ) → o < length outer → t < length inner
      → code_at (get_or file (entry_byte shape animals outer o + entry_byte shape (not animals) inner t) 0) (entry_place shape animals outer o + entry_place shape (not animals) inner t)
      ≡ line_call o t
  unfolding entry_byte entry_place
  line_code o t ho ht =
      kinds_code file shape r.shaped animals _ _ (number_below shape animals outer r.outer_good o ho) (number_below shape (not animals) inner r.inner_good t ht)

  line_place : (o t : ℕ) → entry_place shape animals outer o + entry_place shape (not animals) inner t < 4
  unfolding entry_place
  line_place o t = two_places shape.mode1 animals (entry_number shape animals outer o) (entry_number shape (not animals) inner t)

  -- a line and resolved entries
  module _ (from until : ℕ) (parts : Parts) (t : EntryParts shape (not animals) inner from until parts)
      (u : until ≤ length inner) (o byte place : ℕ) (ho : o < length outer)
      (eb : byte ≡ entry_byte shape animals outer o) (ep : place ≡ entry_place shape animals outer o) where
    byte_there : (k : ℕ) → k < until - from → byte + get_or parts.bytes k 0 ≡ entry_byte shape animals outer o + entry_byte shape (not animals) inner (from + k)
    byte_there k h = let e = t.byte_is k h in omega arith

    place_there : (k : ℕ) → k < until - from → place + get_or parts.places k 0 ≡ entry_place shape animals outer o + entry_place shape (not animals) inner (from + k)
    place_there k h = let e = t.place_is k h in omega arith

    pub parts_inside : until - from ≤ 2048 → Inside file byte place parts (until - from)
    parts_inside h =
        record {
          bound = h;
          byte_in = λ k h. subst (λ (x : ℕ). x < length file) (sym (byte_there k h)) (line_inside o (from + k) ho (omega arith));
          place_in = λ k h. subst (λ (x : ℕ). x < 4) (sym (place_there k h)) (line_place o (from + k));
        }

    pub parts_code : (k : ℕ) → k < until - from → code_at (get_or file (byte + get_or parts.bytes k 0) 0) (place + get_or parts.places k 0) ≡ line_call o (from + k)
    parts_code k h =
        ap (λ (x : ℕ). code_at (get_or file x 0) (place + get_or parts.places k 0)) (byte_there k h)
        ∙ ap (code_at (get_or file (entry_byte shape animals outer o + entry_byte shape (not animals) inner (from + k)) 0)) (place_there k h)
        ∙ line_code o (from + k) ho (omega arith)

  -- a line whose places are the items of a block, in order
  module _ (i : is_along_block shape (not animals) inner ≡ true) (o byte : ℕ) (ho : o < length outer)
      (eb : byte ≡ entry_byte shape animals outer o) where
    pub along_inside : length inner ≤ 4 * (length file - byte)
    along_inside = by_length (length inner) refl
      where
        by_length : (n : ℕ) → n ≡ length inner → n ≤ 4 * (length file - byte)
        by_length zero e = omega arith
        by_length (suc n) e =
            let h : n < length inner = omega arith in let b = line_inside o n ho h in let q = along_byte shape (not animals) inner i n h in omega arith

    pub along_code : (k : ℕ) → k < length inner → code_at (get_or file (byte + k / 4) 0) (k % 4) ≡ line_call o k
    along_code k h =
        let z : entry_place shape animals outer o ≡ 0 = block_place shape animals outer o (other_kind shape.mode1 animals (are_items shape (not animals) inner i)) in
        let b : byte + k / 4 ≡ entry_byte shape animals outer o + entry_byte shape (not animals) inner k = (let e = along_byte shape (not animals) inner i k h in omega arith) in
        let p : k % 4 ≡ entry_place shape animals outer o + entry_place shape (not animals) inner k = (let e = along_place shape (not animals) inner i k h in omega arith) in
        ap (λ (x : ℕ). code_at (get_or file x 0) (k % 4)) b
        ∙ ap (code_at (get_or file (entry_byte shape animals outer o + entry_byte shape (not animals) inner k) 0)) p
        ∙ line_code o k ho h
