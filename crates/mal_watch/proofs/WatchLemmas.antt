use Rattle.std.proofs.Common.{◌≡◌, ℕ, zero, suc, ◌<◌, List, [], ◌∷◌, ◌++◌, length, set, get_or, Option, refl, ap, arith}
use Rattle.std.proofs.lemmas.List.{length-map, map-append}
use Rattle.mal_watch.specs.declared.watch_lists.Watch.{Watch}
use Rattle.mal_watch.specs.WatchLists.{link_at}
use Rattle.mal_watch.specs.Watches.{links_of, keys_of}

pub links-length : (watches : List Watch) → length (links_of watches) ≡ length watches
links-length watches = length-map watches (λ (n : Watch). n.next)

pub keys-length : (watches : List Watch) → length (keys_of watches) ≡ length watches
keys-length watches = length-map watches (λ (n : Watch). n.key)

-- one watch more
pub links-push : (watches : List Watch) (n : Watch) → links_of (watches ++ n ∷ []) ≡ links_of watches ++ n.next ∷ []
links-push watches n = map-append (λ (m : Watch). m.next) watches (n ∷ [])

pub keys-push : (watches : List Watch) (n : Watch) → keys_of (watches ++ n ∷ []) ≡ keys_of watches ++ n.key ∷ []
keys-push watches n = map-append (λ (m : Watch). m.key) watches (n ∷ [])

-- another watch at a place
pub links-set : (watches : List Watch) (k : ℕ) (n : Watch) → links_of (set watches k n) ≡ set (links_of watches) k n.next
links-set [] k n = refl
links-set (m ∷ ms) zero n = refl
links-set (m ∷ ms) (suc k) n = ap (λ (ls : List (Option ℕ)). m.next ∷ ls) (links-set ms k n)

pub keys-set : (watches : List Watch) (k : ℕ) (n : Watch) → keys_of (set watches k n) ≡ set (keys_of watches) k n.key
keys-set [] k n = refl
keys-set (m ∷ ms) zero n = refl
keys-set (m ∷ ms) (suc k) n = ap (λ (ls : List ℕ). m.key ∷ ls) (keys-set ms k n)

-- the watch at a place
pub link-at : (watches : List Watch) (k : ℕ) (n : Watch) → k < length watches → n ≡ get_or watches k n → n.next ≡ link_at (links_of watches) k
link-at [] k n l e = absurd (omega arith)
link-at (m ∷ ms) zero n l e = ap (λ (x : Watch). x.next) e
link-at (m ∷ ms) (suc k) n l e = link-at ms k n (omega arith) e

pub key-at : (watches : List Watch) (k : ℕ) (n : Watch) → k < length watches → n ≡ get_or watches k n → n.key ≡ get_or (keys_of watches) k 0
key-at [] k n l e = absurd (omega arith)
key-at (m ∷ ms) zero n l e = ap (λ (x : Watch). x.key) e
key-at (m ∷ ms) (suc k) n l e = key-at ms k n (omega arith) e
