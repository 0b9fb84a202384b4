use Rattle.std.proofs.Common.{◌≡◌, ℕ, ◌-◌, ◌≤◌, Bool, true, false, ◌&&◌, nat_le, nat_lt, List, ◌++◌, length, take, drop, replicate, refl, arith, length-append}
use Rattle.std.proofs.lemmas.List.{drop-replicate, length-replicate}
use Rattle.std.proofs.Math.Seq.{take-append_seam}
use Rattle.std.proofs.lemmas.Bool.{leb-true}
use Rattle.std.specs.List.{list_all}
use Rattle.mal_base.specs.Names.{is_name, is_name_byte}
use Rattle.mal_base.specs.NameFields.{IsPadded}

-- a name has at most 32 bytes
pub name-short : (text : List ℕ) → is_name text ≡ true → length text ≤ 32
name-short text named = by_first (nat_lt 0 (length text)) (nat_le (length text) 32) (list_all is_name_byte text) refl named
  where
    by_first : (a b c : Bool) → nat_le (length text) 32 ≡ b → ((a && b) && c) ≡ true → length text ≤ 32
    by_first true true c e h = leb-true (length text) 32 e
    by_first true false c e h = absurd (cc)
    by_first false b c e h = absurd (cc)

-- a name with zeros after it fills the room
pub padded-name : (text zeros : List ℕ) → is_name text ≡ true → zeros ≡ replicate 32 0 → IsPadded (record { bytes = text ++ drop (length text) zeros; len = length text })
padded-name text zeros named e =
    let short : length text ≤ 32 = name-short text named in
    let rest : drop (length text) zeros ≡ replicate (32 - length text) 0 = rw e (drop-replicate (length text) 32 0) in
    let front : take (length text) (text ++ drop (length text) zeros) ≡ text = take-append_seam text (drop (length text) zeros) in
    record {
      short = short;
      named = rw front named;
      padded = rw (front, rest) refl;
      long = rw rest (omega (arith, length-append text (replicate (32 - length text) 0), length-replicate {A = ℕ} (32 - length text) 0));
    }
