-- The lines of a book's attributes, one after another.
use Rattle.std.proofs.Common.{◌≡◌, ℕ, ◌+◌, ◌-◌, ◌*◌, ◌<◌, ◌≤◌, List, ◌++◌, length, get_or, drop, vec_items, sym, ap, ◌∙◌, zero-add, arith, Bor, Iter, Option, Some}
use Rattle.std.proofs.iter.Yields.{fronts}
use Rattle.std.proofs.lemmas.Iterator.{zips, YieldsList, YieldsList-from_slice, YieldsList-from_zip}
use Rattle.std.proofs.lemmas.Iterator.Consumers.{YieldsList-from_enumerate, YieldsList-turn}
use Rattle.std.specs.Iterator.{Yields}
use Rattle.std.specs.Iterator.Adapters.{enumerate_count, enumerate_source, enumerate_steps, zip_first, zip_second}
use Rattle.std.specs.List.{enumerate_from, zip}
use Rattle.std.specs.Slice.Iter.{iter_rest}
use Rattle.std.specs.declared.iter.Enumerate.{Enumerate}
use Rattle.std.specs.declared.iter.Zip.{Zip}
use mathlib.Core.Logic.{∥∥₁_elim}
use native.Mathlib.Bridge.{le_prop}
use Rattle.std.proofs.lemmas.List.{append_assoc, append-nil, at_drop_all, at_drop_more, get_or_default}
use Rattle.std.proofs.lemmas.List.FromFn.{get_or-enumerate_from, length-enumerate_from}
use Rattle.std.proofs.lemmas.Slice.Zip.{get_or-zip, length-zip}
use Rattle.grammar.specs.declared.book.Book.{Book}
use Rattle.grammar.specs.declared.vocabulary.Attribute.{Attribute}
use Rattle.listing.specs.Listing.{attribute_line, attribute_lines}

abbrev pub attributes : Book → List Attribute
attributes b = vec_items b.vocabulary.attributes

pub few_attributes : (b : Book) → length (attributes b) ≤ 64
few_attributes b = ∥∥₁_elim b.lawful le_prop (λ l. l.vocabulary.few_attributes)

-- each attribute with its place and its number
abbrev pub numbered : List Attribute → List ℕ → List (ℕ × (Attribute × ℕ))
numbered xs numbers = enumerate_from 0 (zip xs numbers)

pub length-numbered : (xs : List Attribute) (numbers : List ℕ) → length xs ≤ length numbers → length (numbered xs numbers) ≡ length xs
length-numbered xs numbers h = omega (arith, length-enumerate_from 0 (zip xs numbers), length-zip xs numbers)

abbrev pub shown : ℕ × (Bor Attribute × Bor ℕ) → ℕ × (Attribute × ℕ)
shown p = (p.0, (p.1.0.now, p.1.1.now))

pub each_numbered : {s : Enumerate (Zip (Iter Attribute) (Iter ℕ))} (xs : List Attribute) (numbers : List ℕ)
    → iter_rest (zip_first (enumerate_source s)) ≡ xs → iter_rest (zip_second (enumerate_source s)) ≡ numbers → enumerate_count s ≡ 0
    → YieldsList {B = ℕ × (Attribute × ℕ)} (enumerate_steps (zips fronts fronts)) shown s (numbered xs numbers)
each_numbered xs numbers e f k =
    YieldsList-from_enumerate (YieldsList-from_zip (YieldsList-from_slice xs e) (YieldsList-from_slice numbers f)) k

item_at : (numbers : List ℕ) (xs : List Attribute) (i : ℕ) (item : ℕ × (Attribute × ℕ)) → length xs ≤ length numbers
    → (i < length (numbered xs numbers)) × (item ≡ get_or (numbered xs numbers) i item)
    → (i < length xs) × (item ≡ (i, (get_or xs i item.1.0, get_or numbers i 0)))
item_at numbers xs i item few t =
    let d : ℕ × (Attribute × ℕ) = (0, (item.1.0, 0)) in
    let l : i < length xs = omega (arith, t.0, length-numbered xs numbers few) in
    let k : i < length numbers = omega (arith, l, few) in
    let all : i < length (zip xs numbers) = omega (arith, l, k, length-zip xs numbers) in (
      l,
      t.1 ∙ get_or_default (numbered xs numbers) i item d t.0 ∙ get_or-enumerate_from 0 (zip xs numbers) i d all
          ∙ ap (λ p. (0 + i, p)) (get_or-zip xs numbers i d.1 l k)
          ∙ ap (λ j. (j, (get_or xs i item.1.0, get_or numbers i 0))) (zero-add i),
    )

-- one turn of the loop over them, which has yielded the ones before
pub next_numbered : {s : Enumerate (Zip (Iter Attribute) (Iter ℕ))} (xs : List Attribute) (numbers : List ℕ)
    → YieldsList {B = ℕ × (Attribute × ℕ)} (enumerate_steps (zips fronts fronts)) shown s (numbered xs numbers)
    → length xs ≤ length numbers
    → (before : List (ℕ × (Bor Attribute × Bor ℕ))) (t u : Enumerate (Zip (Iter Attribute) (Iter ℕ))) → Yields (enumerate_steps (zips fronts fronts)) s before t
    → (r : Option (ℕ × (Bor Attribute × Bor ℕ))) (x : ℕ × (Bor Attribute × Bor ℕ)) → r ≡ Some x → enumerate_steps (zips fronts fronts) t r u
    → (length before < length xs) × (shown x ≡ (length before, (get_or xs (length before) x.1.0.now, get_or numbers (length before) 0)))
next_numbered xs numbers each few before t u y r x e turn =
    item_at numbers xs (length before) (shown x) few (YieldsList-turn each before t y r u x e turn)

-- the lines of the first i attributes are written; those that are left give the rest
pub record Written (numbers : List ℕ) (xs : List Attribute) (i : ℕ) (page : List ℕ) : Type 0 where
  pub whole : page ++ attribute_lines numbers (i + 1) (drop i xs) ≡ attribute_lines numbers 1 xs
  pub room : length page ≤ 13 * i

pub one_written : (numbers : List ℕ) (xs : List Attribute) (i : ℕ) (p q : List ℕ) (item : ℕ × (Attribute × ℕ))
    → (i < length xs) × (item ≡ (i, (get_or xs i item.1.0, get_or numbers i 0)))
    → Written numbers xs i p → q ≡ p ++ attribute_line (item.0 + 1) item.1.0.symbol item.1.1 → length q ≤ length p + 13 → Written numbers xs (i + 1) q
one_written numbers xs i p q item t w e short =
    let line : List ℕ = attribute_line (i + 1) (get_or xs i item.1.0).symbol (get_or numbers i 0) in
    let rest : List ℕ = attribute_lines numbers (i + 1 + 1) (drop (i + 1) xs) in
    let back : (i + 1) - 1 ≡ i = omega arith in
    let more : attribute_lines numbers (i + 1) (drop i xs) ≡ line ++ rest =
    at_drop_more (attribute_lines numbers (i + 1)) xs i item.1.0 t.0 ∙ ap (λ k. attribute_line (i + 1) (get_or xs i item.1.0).symbol (get_or numbers k 0) ++ rest) back in
    let added : q ≡ p ++ line = e ∙ ap (λ (x : ℕ × (Attribute × ℕ)). p ++ attribute_line (x.0 + 1) x.1.0.symbol x.1.1) t.1 in
    record {
      whole = ap (λ front. front ++ rest) added ∙ append_assoc p line rest ∙ ap (λ end. p ++ end) (sym more) ∙ w.whole;
      room = omega (arith, short, w.room);
    }

pub all_written : (numbers : List ℕ) (xs : List Attribute) (i : ℕ) (page : List ℕ) → length xs ≤ i → Written numbers xs i page → page ≡ attribute_lines numbers 1 xs
all_written numbers xs i page l w =
    sym (append-nil page) ∙ ap (λ tail. page ++ tail) (sym (at_drop_all (attribute_lines numbers (i + 1)) xs i l)) ∙ w.whole
