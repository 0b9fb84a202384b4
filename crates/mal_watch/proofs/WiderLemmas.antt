use Rattle.std.proofs.Common.{◌≡◌, ℕ, zero, suc, List, [], ◌∷◌, ◌++◌, replicate, Option, None, refl}
use Rattle.mal_watch.specs.WatchLists.{link_at, AreLinked}

none-more : (m k : ℕ) → ◌≡◌ {A = Option ℕ} (link_at (replicate m None) k) None
none-more zero k = refl
none-more (suc m) zero = refl
none-more (suc m) (suc k) = none-more m k

pub head-more : (heads : List (Option ℕ)) (m k : ℕ) → link_at (heads ++ replicate m None) k ≡ link_at heads k
head-more [] m k = none-more m k
head-more (x ∷ xs) m zero = refl
head-more (x ∷ xs) m (suc k) = head-more xs m k

-- lists stay as they are where there are more of them, without a watch
pub wider : (heads links : List (Option ℕ)) (keys : List ℕ) (m : ℕ) → AreLinked heads links keys → AreLinked (heads ++ replicate m None) links keys
wider heads links keys m c =
    record {
      lists = c.lists;
      linked = λ key. rw (head-more heads m key) (c.linked key);
      home = c.home;
      each = c.each;
      once = c.once;
      long = c.long;
    }
