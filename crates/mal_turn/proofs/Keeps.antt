-- Each step keeps the rule.
use Rattle.std.proofs.Common.{None, ◌≡◌, ◌≢◌, ℕ, zero, suc, ◌+◌, ◌<◌, ◌≤◌, eqb, Bool, true, false, List, [], ◌∷◌, ◌++◌, map, length, if◌then◌else◌, get_or, set, refl, sym, ap, ◌∙◌, subst, inl, inr, ◌⊎◌, ⊎_elim, Option, Some, append_assoc, arith, le_refl, eq-eqb, ne_eqb, length-append, nat_le, ◌||◌}
use mathlib.Core.Logic.{dite}
use mathlib.Core.Option as lean
use native.Mathlib.Decide.{ℕ_discrete}
use lib.ListN.{get_elem?}
use lib.Seq.{set-get_or, map-set}
use prog.Atomic.{either}
use Rattle.atomic_table.specs.Table.{State, step, keeps, takes, gives, stepped, Allows, Splits, Joins, Final, Seen, opening as opened}
use Rattle.atomic_table.proofs.Lists.{set_here, set_else, set_again, at_snoc, at_map, at_longer}
use Rattle.mal_turn.specs.declared.view.View.{View}
use Rattle.mal_turn.specs.declared.view.Numbers.{Numbers}
use Rattle.mal_turn.specs.declared.view.Stage.{Stage}
use Rattle.mal_turn.specs.declared.view.Stage.TheVariants.{Idle, Drawn, Holds, Entered}
use Rattle.mal_turn.specs.Numbers.{same, among, part}
use Rattle.mal_turn.specs.Rule.{Log, At, HasTicket, is_inside, Has, IsSpent, opening, opener, at_stage, seeing, numbers, Olds, Begins, Former, Stands, Fits, NumberRule, Home, Away, TurnRule, IsUnborn, Leaves, spent, next_number, splitting, child, joined, IsWhole, split_left, split_right, join_both, nobody}
use Rattle.mal_turn.specs.Steps.{Tabled, draws, looks, enters, passes}
use Rattle.mal_turn.proofs.Lists.{stay, one_view, behind, begins_whole, begins_longer}
use Rattle.mal_turn.proofs.Paths.{same_equal, has_left, has_right, part_none, part_both, part_later}
use Rattle.mal_turn.proofs.Records.{at_end, token_split, new_is_fresh, numbered_split, token_join, numbered_join, whole_has, made_before}
use mathlib.Core.List.{map-append}
use Rattle.std.proofs.lemmas.Bool.Decides.{nat_tests}

not_both : (b : Bool) → b ≡ true → b ≡ false → ⊥
not_both b t f = absurd (cc)

-- a number that this token has is another token's only if the two are one
other_numbers : (token : List ℕ → ℕ) (me j : ℕ) (n : Numbers) (x : List ℕ) → ((y : List ℕ) → Has n y → j ≡ token y) → me ≡ token x → j ≢ me → among x n.all ≡ false
other_numbers token me j n x own mine other = by_test (among x n.all) refl where
  by_test : (b : Bool) → among x n.all ≡ b → b ≡ false
  by_test true e = absurd (other (own x e ∙ sym mine))
  by_test false e = refl

not_among : (x : List ℕ) (ns all : List (List ℕ)) → ((y : List ℕ) → among y ns ≡ true → among y all ≡ true) → among x all ≡ false → (b : Bool) → among x ns ≡ b → b ≡ false
not_among x ns all sub out true e = absurd (not_both (among x all) (sub x e) out)
not_among x ns all sub out false e = refl

module _ {E : Type 0} where
  -- a token that has the slot has the ticket that is served
  inside_is_served : (log : Log E) (ticket serving : ℕ) (owner : ℕ → ℕ) (j : ℕ) (seen : Log E) (st : Stage) → Stands log ticket serving owner j seen st → is_inside st ≡ true → j ≡ owner serving
  inside_is_served log ticket serving owner j seen Idle s i = absurd (cc)
  inside_is_served log ticket serving owner j seen (Drawn t) s i = absurd (cc)
  inside_is_served log ticket serving owner j seen (Holds t) s i = s.2 ∙ ap owner s.0
  inside_is_served log ticket serving owner j seen (Entered t) s i = s.2 ∙ ap owner s.0

  -- what the others know when one token draws the next ticket
  stands_drawn : (log : Log E) (ticket serving : ℕ) (owner : ℕ → ℕ) (me j : ℕ) (seen : Log E) (st : Stage) → Stands log ticket serving owner j seen st
      → Stands log (ticket + 1) serving (λ t. if eqb t ticket then me else owner t) j seen st
  stands_drawn log ticket serving owner me j seen Idle s = tt
  stands_drawn log ticket serving owner me j seen (Drawn t) s = let lt : t < ticket = s.1 in (s.0, omega arith, rw (ne_eqb t ticket (λ (e : t ≡ ticket). omega arith)) s.2)
  stands_drawn log ticket serving owner me j seen (Holds t) s = let lt : t < ticket = s.1 in (s.0, omega arith, rw (ne_eqb t ticket (λ (e : t ≡ ticket). omega arith)) s.2, s.3, s.4)
  stands_drawn log ticket serving owner me j seen (Entered t) s = let lt : t < ticket = s.1 in (s.0, omega arith, rw (ne_eqb t ticket (λ (e : t ≡ ticket). omega arith)) s.2, s.3, s.4)

  -- when the holder, which is not this token, enters an entry
  stands_entered : (log log' : Log E) (ticket serving : ℕ) (owner : ℕ → ℕ) (j : ℕ) (seen : Log E) (st : Stage) → j ≢ owner serving → Stands log ticket serving owner j seen st → Stands log' ticket serving owner j seen st
  stands_entered log log' ticket serving owner j seen Idle other s = tt
  stands_entered log log' ticket serving owner j seen (Drawn t) other s = s
  stands_entered log log' ticket serving owner j seen (Holds t) other s = absurd (other (s.2 ∙ ap owner s.0))
  stands_entered log log' ticket serving owner j seen (Entered t) other s = absurd (other (s.2 ∙ ap owner s.0))

  -- when it passes on
  stands_passed : (log : Log E) (ticket serving : ℕ) (owner : ℕ → ℕ) (j : ℕ) (seen : Log E) (st : Stage) → j ≢ owner serving → Stands log ticket serving owner j seen st → Stands log ticket (serving + 1) owner j seen st
  stands_passed log ticket serving owner j seen Idle other s = tt
  stands_passed log ticket serving owner j seen (Drawn t) other s =
      let le : serving ≤ t = s.0 in dite (ℕ_discrete t serving) (λ e. absurd (other (s.2 ∙ ap owner e))) (λ ne. (omega arith, s.1, s.2))
  stands_passed log ticket serving owner j seen (Holds t) other s = absurd (other (s.2 ∙ ap owner s.0))
  stands_passed log ticket serving owner j seen (Entered t) other s = absurd (other (s.2 ∙ ap owner s.0))

  -- a token that is not served is not inside
  outside : (log : Log E) (ticket serving : ℕ) (owner : ℕ → ℕ) (j : ℕ) (seen : Log E) (st : Stage) → j ≢ owner serving → Stands log ticket serving owner j seen st → is_inside st ≡ false
  outside log ticket serving owner j seen Idle other s = refl
  outside log ticket serving owner j seen (Drawn t) other s = refl
  outside log ticket serving owner j seen (Holds t) other s = absurd (other (s.2 ∙ ap owner s.0))
  outside log ticket serving owner j seen (Entered t) other s = absurd (other (s.2 ∙ ap owner s.0))

  -- the numbers stay where one token's stage or history changes
  same_numbers : (log : Log E) (token : List ℕ → ℕ) (vs : List (View E)) (me : ℕ) (v w : View E) → At vs me v → w.of ≡ v.of → NumberRule log token (map numbers vs) → NumberRule log token (map numbers (set vs me w))
  same_numbers log token vs me v w at e = subst (NumberRule log token) (sym (map-set numbers vs me w ∙ (ap (set (map numbers vs) me) e ∙ set_again (map numbers vs) me v.of (at_map numbers vs me v at))))

  no_former : (log : Log E) (all : List (List ℕ)) → Former log all []
  no_former log all i o p = absurd (lean.some-ne-none o (sym p))

  former_longer : (log : Log E) (all : List (List ℕ)) (olds : Olds E) (e : List ℕ × E) → Former log all olds → among e.0 all ≡ false → Former (log ++ e ∷ []) all olds
  former_longer log all olds e f out i o p = let q = f i o p in (begins_longer log o.1 o.0 e q.0 (not_among e.0 o.0 all q.1 out (among e.0 o.0) refl), q.1)

  -- a longer history
  numbered_longer : (log : Log E) (token : List ℕ → ℕ) (ns : List Numbers) (me : ℕ) (n : Numbers) (e : List ℕ × E) → At ns me n → Has n e.0 → me ≡ token e.0 → NumberRule log token ns → NumberRule (log ++ e ∷ []) token ns
  numbered_longer log token ns me n e at has mine r = record {
    own = r.own;
    rooted = r.rooted;
    fresh = r.fresh;
    parent = r.parent;
    entered = λ i d p. ⊎_elim (λ (q : At log i d). r.entered i d q)
        (λ (q : e ≡ d). subst (λ (z : List ℕ × E). (m : Numbers) × At ns (token z.0) m × Has m z.0) q (n, subst (λ (k : ℕ). At ns k n) mine at, has)) (at_snoc log e d i p);
  }

module _ {T E : Type 0} (stands : T → Log E → Type 0) where
  abbrev St : Type 0
  St = State (Option T) (View E)

  abbrev M : Type 0
  M = Tabled T E

  abbrev Rule : St → Type 0
  Rule = TurnRule stands

  -- a view that others have is not this one's
  away_stays : (homes : List (lean.Option (Option T))) (vs : List (View E)) (me : ℕ) (v w : View E) → At vs me v → is_inside v.stage ≡ false → Away stands homes vs → Away stands homes (set vs me w)
  away_stays homes vs me v w at out a =
      let other : a.1.0 ≢ me = λ e. not_both (is_inside v.stage) (ap (λ (z : View E). is_inside z.stage) (sym (one_view vs a.1.0 me a.1.1 v a.1.2 at e)) ∙ a.1.3) out in
      (a.0, (a.1.0, a.1.1, set_else vs me a.1.0 w other ∙ a.1.2, a.1.3))

  home_stays : (log : Log E) (serving : ℕ) (homes : List (lean.Option (Option T))) (vs : List (View E)) (me : ℕ) (w : View E) → is_inside w.stage ≡ false → Home stands log serving homes vs → Home stands log serving homes (set vs me w)
  home_stays log serving homes vs me w out h = (h.0, h.1, h.2, h.3, stay (λ j v. is_inside v.stage ≡ false) vs me w out (λ j d _ at. h.4 j d at))

  long_enough : (vs : List (View E)) (me : ℕ) (v : View E) → At vs me v → me < length vs
  long_enough [] me v e = absurd (lean.some-ne-none v (sym e))
  long_enough (x ∷ xs) zero v e = omega arith
  long_enough (x ∷ xs) (suc me) v e = let h = long_enough xs me v e in omega arith

  word_is : (s : St) (r : Rule s) (i : ℕ) → get_or s.words i 0 ≡ get_or (r.ticket ∷ r.serving ∷ length r.log ∷ []) i 0
  word_is s r i = ap (λ (l : List ℕ). get_or l i 0) r.words

  still : (s : St) (r : Rule s) (i me : ℕ) (w : View E) → At s.views me w → Rule (stepped s i (get_or s.words i 0) me [] w keeps)
  still s r i me w at = subst (λ (ws : List ℕ). Rule record { words = ws; homes = s.homes; views = set s.views me w }) (sym (set-get_or s.words i 0))
      (subst (λ (vs : List (View E)). Rule record { words = s.words; homes = s.homes; views = vs }) (sym (set_again s.views me w at)) r)

  pub draws_keep : (slots id n k : ℕ) (v : View E) → Has v.of v.of.first → k ≡ n + 1
      → Allows Rule slots id (at_stage Idle v, []) 0 (λ x. either (eqb x n) k x) (draws (step slots 0 n k lean.none) (at_stage Idle v, []))
  draws_keep slots id n k v has up s r _ at _ = let x : ℕ = get_or s.words 0 0 in let now : x ≡ r.ticket = word_is s r 0 in let was : View E = at_stage Idle v in let fit = r.each id was at in dite (ℕ_discrete x n)
      (λ hit. let w : View E = at_stage (Drawn n) v in let below = r.below in let inside = long_enough s.views id was at in
      let next : ℕ → ℕ = λ t. if eqb t r.ticket then id else r.owner t in (
        w,
        keeps,
        tt,
        subst (λ b. Rule (stepped s 0 (either b k x) id [] w keeps)) (sym (eq-eqb x n hit)) record {
          ticket = r.ticket + 1;
          serving = r.serving;
          log = r.log;
          owner = next;
          token = r.token;
          words = ap (λ (l : List ℕ). set l 0 k) r.words ∙ (let e : k ≡ r.ticket + 1 = omega arith in ap (λ (z : ℕ). z ∷ r.serving ∷ length r.log ∷ []) e);
          below = omega arith;
          drawn = λ t lo hi. dite (ℕ_discrete t r.ticket)
              (λ e. (w, subst (λ b. At (set s.views id w) (if b then id else r.owner t) w) (sym (eq-eqb t r.ticket e)) (set_here s.views id w inside), omega arith))
              (λ ne. let d = r.drawn t lo (omega arith) in let other : r.owner t ≢ id = λ e. subst (λ (z : View E). HasTicket t z.stage) (one_view s.views (r.owner t) id d.0 was d.1 at e) d.2 in
              (d.0, subst (λ b. At (set s.views id w) (if b then id else r.owner t) d.0) (sym (ne_eqb t r.ticket ne)) (set_else s.views id (r.owner t) w other ∙ d.1), d.2));
          slot = ⊎_elim (λ h. inl (home_stays r.log r.serving s.homes s.views id w refl h)) (λ a. inr (away_stays s.homes s.views id was w at refl a)) r.slot;
          each = stay (Fits r.log (r.ticket + 1) r.serving next) s.views id w
              (record { staged = (omega arith, omega arith, rw (eq-eqb n r.ticket (omega arith)) refl); begins = fit.begins; former = fit.former; live = inr has })
              (λ j d _ p. let f = r.each j d p in record { staged = stands_drawn r.log r.ticket r.serving r.owner id j d.seen d.stage f.staged; begins = f.begins; former = f.former; live = f.live });
          numbered = same_numbers r.log r.token s.views id was w at refl r.numbered;
        },
        ((λ _. refl), λ miss. absurd (miss hit)),
      ))
      (λ miss. (
        was,
        keeps,
        tt,
        subst (λ b. Rule (stepped s 0 (either b k x) id [] was keeps)) (sym (ne_eqb x n miss)) (still s r 0 id was at),
        ((λ hit. absurd (miss hit)), λ _. refl),
      ))

  -- a step at which only this token's stage and history change, and it keeps its ticket
  drawn_stay : (ticket serving : ℕ) (owner : ℕ → ℕ) (vs : List (View E)) (me : ℕ) (v w : View E) → At vs me v → ((t : ℕ) → HasTicket t v.stage → HasTicket t w.stage)
      → ((t : ℕ) → serving ≤ t → t < ticket → (d : View E) × At vs (owner t) d × HasTicket t d.stage)
      → (t : ℕ) → serving ≤ t → t < ticket → (d : View E) × At (set vs me w) (owner t) d × HasTicket t d.stage
  drawn_stay ticket serving owner vs me v w at same r t lo hi = let d = r t lo hi in dite (ℕ_discrete (owner t) me)
      (λ e. (w, subst (λ (k : ℕ). At (set vs me w) k w) (sym e) (set_here vs me w (long_enough vs me v at)), same t (subst (λ (z : View E). HasTicket t z.stage) (one_view vs (owner t) me d.0 v d.1 at e) d.2)))
      (λ other. (d.0, set_else vs me (owner t) w other ∙ d.1, d.2))

  -- the token that is served finds the slot at home
  served_home : (s : St) (r : Rule s) (id t : ℕ) (v : View E) → At s.views id (at_stage (Drawn t) v) → r.serving ≡ t → Home stands r.log r.serving s.homes s.views
  served_home s r id t v at is = ⊎_elim (λ h. h) (λ a. let f = r.each a.1.0 a.1.1 a.1.2 in let m = r.each id (at_stage (Drawn t) v) at in
      let here : a.1.0 ≡ id = inside_is_served r.log r.ticket r.serving r.owner a.1.0 a.1.1.seen a.1.1.stage f.staged a.1.3 ∙ (ap r.owner is ∙ sym m.staged.2) in
      absurd (not_both (is_inside a.1.1.stage) a.1.3 (ap (λ (z : View E). is_inside z.stage) (one_view s.views a.1.0 id a.1.1 (at_stage (Drawn t) v) a.1.2 at here)))) r.slot

  -- other views that fit what the words and the record say keep the rule
  viewed : (s : St) (r : Rule s) (words : List ℕ) (homes : List (lean.Option (Option T))) (vs : List (View E)) (token : List ℕ → ℕ) → words ≡ r.ticket ∷ r.serving ∷ length r.log ∷ []
      → ((t : ℕ) → r.serving ≤ t → t < r.ticket → (d : View E) × At vs (r.owner t) d × HasTicket t d.stage) → Home stands r.log r.serving homes vs ⊎ Away stands homes vs
      → ((j : ℕ) (d : View E) → At vs j d → Fits r.log r.ticket r.serving r.owner j d) → NumberRule r.log token (map numbers vs) → Rule record { words = words; homes = homes; views = vs }
  viewed s r words homes vs token same drawn slot each numbered = record { ticket = r.ticket; serving = r.serving; log = r.log; owner = r.owner; token = token; words = same; below = r.below; drawn = drawn; slot = slot; each = each; numbered = numbered }

  -- a token that looks has seen the record so far; the words, its numbers and what the others know stay
  looked : (s : St) (r : Rule s) (id : ℕ) (v : View E) (before after : Stage) (homes : List (lean.Option (Option T))) → At s.views id (at_stage before v) → ((t : ℕ) → HasTicket t before → HasTicket t after)
      → Stands r.log r.ticket r.serving r.owner id r.log after → ((after ≡ Idle) ⊎ Has v.of v.of.first) → Home stands r.log r.serving homes (set s.views id (seeing after r.log v)) ⊎ Away stands homes (set s.views id (seeing after r.log v))
      → Rule record { words = set s.words 1 (get_or s.words 1 0); homes = homes; views = set s.views id (seeing after r.log v) }
  looked s r id v before after homes at same staged live slot = let was : View E = at_stage before v in let w : View E = seeing after r.log v in
      viewed s r (set s.words 1 (get_or s.words 1 0)) homes (set s.views id w) r.token (set-get_or s.words 1 0 ∙ r.words) (drawn_stay r.ticket r.serving r.owner s.views id was w at same r.drawn) slot
      (stay (Fits r.log r.ticket r.serving r.owner) s.views id w (record { staged = staged; begins = begins_whole r.log r.log v.of.all refl; former = no_former r.log v.of.all; live = live }) (λ j d _ p. r.each j d p))
      (same_numbers r.log r.token s.views id was w at refl r.numbered)

  -- no token has entered that this one would still make
  not_born : (s : St) (r : Rule s) (id : ℕ) (v : View E) → At s.views id v → Has v.of v.of.first → IsUnborn v.of r.log
  not_born s r id v at has i rest k e late p is =
      let d = r.numbered.entered k e p in
      let q : e.0 ≡ (v.of.first ++ i ∷ []) ++ rest = is ∙ sym (append_assoc v.of.first (i ∷ []) rest) in
      let made = made_before r.log r.token (map numbers s.views) r.numbered (v.of.first ++ i ∷ []) (length rest) rest (le_refl (length rest)) (r.token e.0) d.0 d.1 (subst (λ (x : List ℕ). Has d.0 x) q d.2) in
      let low : i < v.of.count = r.numbered.fresh id made.0 i v.of made.1 (at_map numbers s.views id v at) made.2 has made.3 in
      absurd (omega (arith, late, low))

  pub looks_keep : (slots id t : ℕ) (v : View E)
      → Allows Rule slots id (at_stage (Drawn t) v, []) 1 (λ x. x) (looks stands (step slots 1 0 0 lean.none) (at_stage (Drawn t) v, []))
  looks_keep slots id t v s r _ at _ = let x : ℕ = get_or s.words 1 0 in let now : x ≡ r.serving = word_is s r 1 in let was : View E = at_stage (Drawn t) v in let fit = r.each id was at in dite (ℕ_discrete x t)
      (λ hit. let h = served_home s r id t v at (omega arith) in let w : View E = seeing (Holds t) r.log v in let mine = fit.staged in let lt : t < r.ticket = mine.1 in (
        w,
        takes 0 (Some h.0),
        ap (λ (l : List (lean.Option (Option T))). get_elem? l 0) h.1,
        looked s r id v (Drawn t) (Holds t) (set s.homes 0 lean.none) at (λ u h. h) (omega arith, lt, mine.2, refl, h.3 ∙ omega arith) (⊎_elim (λ (idle : Drawn t ≡ Idle). absurd (cc)) inr fit.live)
            (inr (ap (λ (l : List (lean.Option (Option T))). set l 0 lean.none) h.1, (id, w, set_here s.views id w (long_enough s.views id was at), refl))),
        ((λ _. (r.log, h.0, refl, h.2, fit.begins, h.3 ∙ omega arith, not_born s r id was at (⊎_elim (λ (idle : Drawn t ≡ Idle). absurd (cc)) (λ (q : Has v.of v.of.first). q) fit.live))), λ miss. absurd (miss hit)),
      ))
      (λ miss. (was, keeps, tt, still s r 1 id was at, ((λ hit. absurd (miss hit)), λ _. refl)))

  head_value : List (ℕ × Option T) → Option T
  head_value [] = None
  head_value (x ∷ xs) = x.1

  one_value : (y z : T) → ◌≡◌ {A = List (ℕ × Option T)} ((0, Some y) ∷ []) ((0, Some z) ∷ []) → y ≡ z
  unfolding head_value
  one_value y z q = let two : Some y ≡ Some z = ap head_value q in cc

  pub enters_keep : (last : T → E) (slots id t k : ℕ) (v : View E) (y : T) → k ≡ t + 1
      → Allows Rule slots id (at_stage (Holds t) v, (0, Some y) ∷ []) 2 (λ x. either (eqb x t) k x) (enters last (step slots 2 t k lean.none) (at_stage (Holds t) v, (0, Some y) ∷ []))
  enters_keep last slots id t k v y up s r _ at _ =
      let e : E = last y in let c : List (ℕ × Option T) = (0, Some y) ∷ [] in
      let x : ℕ = get_or s.words 2 0 in let was : View E = at_stage (Holds t) v in let fit = r.each id was at in let mine = fit.staged in
      let len : length r.log ≡ t = mine.4 in let hit : x ≡ t = word_is s r 2 ∙ len in
      let entry : List ℕ × E = (v.of.first, e) in let log : Log E = r.log ++ entry ∷ [] in
      let w : View E = seeing (Entered t) (v.seen ++ entry ∷ []) v in
      let whole : v.seen ++ entry ∷ [] ≡ log = ap (λ (l : Log E). l ++ entry ∷ []) mine.3 in
      let has : Has v.of v.of.first = ⊎_elim (λ (idle : Holds t ≡ Idle). absurd (cc)) (λ h. h) fit.live in
      let owns : id ≡ r.token v.of.first = r.numbered.own id v.of v.of.first (at_map numbers s.views id was at) has in
      let served : id ≡ r.owner r.serving = mine.2 ∙ ap r.owner mine.0 in
      let longer : length log ≡ t + 1 = length-append r.log (entry ∷ []) ∙ omega arith in (
        w,
        keeps,
        tt,
        subst (λ b. Rule (stepped s 2 (either b k x) id c w keeps)) (sym (eq-eqb x t hit)) record {
          ticket = r.ticket;
          serving = r.serving;
          log = log;
          owner = r.owner;
          token = r.token;
          words = ap (λ (l : List ℕ). set l 2 k) r.words ∙ (let e : k ≡ length log = omega arith in ap (λ (z : ℕ). r.ticket ∷ r.serving ∷ z ∷ []) e);
          below = r.below;
          drawn = drawn_stay r.ticket r.serving r.owner s.views id was w at (λ t h. h) r.drawn;
          slot = ⊎_elim (λ h. absurd (not_both true refl (h.4 id was at))) (λ a. inr (a.0, (id, w, set_here s.views id w (long_enough s.views id was at), refl))) r.slot;
          each = stay (Fits log r.ticket r.serving r.owner) s.views id w
              (record { staged = (mine.0, mine.1, mine.2, whole, longer); begins = begins_whole log (v.seen ++ entry ∷ []) v.of.all whole; former = no_former log v.of.all; live = inr has })
              (λ j d other p. let f = r.each j d p in record {
                staged = stands_entered r.log log r.ticket r.serving r.owner j d.seen d.stage (λ is. other (is ∙ sym served)) f.staged;
                begins = begins_longer r.log d.seen d.of.all entry f.begins (other_numbers r.token id j d.of v.of.first (λ y h. r.numbered.own j d.of y (at_map numbers s.views j d p) h) owns other);
                former = former_longer r.log d.of.all d.old entry f.former (other_numbers r.token id j d.of v.of.first (λ y h. r.numbered.own j d.of y (at_map numbers s.views j d p) h) owns other);
                live = f.live;
              });
          numbered = numbered_longer r.log r.token (map numbers (set s.views id w)) id v.of entry (at_map numbers (set s.views id w) id w (set_here s.views id w (long_enough s.views id was at))) has owns
              (same_numbers r.log r.token s.views id was w at refl r.numbered);
        },
        (λ (z : T) (q : ◌≡◌ {A = List (ℕ × Option T)} ((0, Some y) ∷ []) ((0, Some z) ∷ [])). let same : y ≡ z = one_value y z q in ap (λ (u : T). (seeing (Entered t) (v.seen ++ (v.of.first, last u) ∷ []) v, (0, Some y) ∷ [])) same),
      )

  pub passes_keep : (slots id t k : ℕ) (v : View E) (x : T) → k ≡ t + 1 → stands x v.seen
      → Allows Rule slots id (at_stage (Entered t) v, (0, Some x) ∷ []) 1 (λ _. k) (λ _. passes (step slots 1 k 0 lean.none) (at_stage (Entered t) v, (0, Some x) ∷ []) k)
  passes_keep slots id t k v x up good s r _ at _ =
      let was : View E = at_stage (Entered t) v in let fit = r.each id was at in let mine = fit.staged in let lt : t < r.ticket = mine.1 in
      let is : t ≡ r.serving = mine.0 in let len : length r.log ≡ t + 1 = mine.4 in
      let w : View E = at_stage Idle v in
      let served : id ≡ r.owner r.serving = mine.2 ∙ ap r.owner mine.0 in
      let has : Has v.of v.of.first = ⊎_elim (λ (idle : Entered t ≡ Idle). absurd (cc)) (λ h. h) fit.live in (
        w,
        gives,
        tt,
        record {
          ticket = r.ticket;
          serving = r.serving + 1;
          log = r.log;
          owner = r.owner;
          token = r.token;
          words = ap (λ (l : List ℕ). set l 1 k) r.words ∙ (let e : k ≡ r.serving + 1 = omega arith in ap (λ (z : ℕ). r.ticket ∷ z ∷ length r.log ∷ []) e);
          below = omega arith;
          drawn = λ u lo hi. let d = r.drawn u (omega arith) hi in
              let other : r.owner u ≢ id = λ e. let same : t ≡ u = subst (λ (z : View E). HasTicket u z.stage) (one_view s.views (r.owner u) id d.0 was d.1 at e) d.2 in omega arith in
              (d.0, set_else s.views id (r.owner u) w other ∙ d.1, d.2);
          slot = ⊎_elim (λ h. absurd (not_both true refl (h.4 id was at)))
              (λ a. inl (
                x,
                ap (λ (l : List (lean.Option (Option T))). set l 0 (lean.some (Some x))) a.0,
                subst (stands x) mine.3 good,
                len ∙ omega arith,
                stay (λ j z. is_inside z.stage ≡ false) s.views id w refl (λ j d other p. outside r.log r.ticket r.serving r.owner j d.seen d.stage (λ is. other (is ∙ sym served)) (r.each j d p).staged),
              ))
              r.slot;
          each = stay (Fits r.log r.ticket (r.serving + 1) r.owner) s.views id w
              (record { staged = tt; begins = fit.begins; former = fit.former; live = inr has })
              (λ j d other p. let f = r.each j d p in record {
                staged = stands_passed r.log r.ticket r.serving r.owner j d.seen d.stage (λ is. other (is ∙ sym served)) f.staged;
                begins = f.begins;
                former = f.former;
                live = f.live;
              });
          numbered = same_numbers r.log r.token s.views id was w at refl r.numbered;
        },
        refl,
      )

  pub opens : (xs : List (Option T)) (x : T) → xs ≡ Some x ∷ [] → stands x [] → Rule (opened (0 ∷ 0 ∷ 0 ∷ []) xs opener)
  opens xs x e good = subst (λ (l : List (Option T)). Rule (opened (0 ∷ 0 ∷ 0 ∷ []) l opener)) (sym e) record {
    ticket = 0;
    serving = 0;
    log = [];
    owner = λ _. 0;
    token = λ _. 0;
    words = refl;
    below = le_refl 0;
    drawn = λ t lo hi. absurd (omega arith);
    slot = inl (x, refl, good, refl, λ j v p. ap (λ (z : View E). is_inside z.stage) (only j v p).1);
    each = λ j v p. let o = only j v p in subst (λ (z : View E). Fits [] 0 0 (λ _. 0) j z) (sym o.1)
        record { staged = tt; begins = ([], refl, refl); former = no_former [] ([] ∷ []); live = inl refl };
    numbered = record {
      own = λ k m x q _. (sole k m q).0;
      rooted = λ k m q. inr (subst (λ (z : Numbers). Has z z.first) (sym (sole k m q).1) refl);
      fresh = λ j k i n m p q has next. absurd (no_child n.first i (subst (λ (z : Numbers). Has z (n.first ++ i ∷ [])) (sole k m q).1 next));
      parent = λ k i m p q has. absurd (no_child p i (subst (λ (z : Numbers). Has z (p ++ i ∷ [])) (sole k m q).1 has));
      entered = λ i e p. absurd (lean.some-ne-none e (sym p));
    };
  } where
    only : (j : ℕ) (v : View E) → At (opener ∷ []) j v → (j ≡ 0) × (v ≡ opener)
    only zero v p = (refl, sym (lean.some-injective opener v p))
    only (suc j) v p = absurd (lean.some-ne-none v (sym p))

    sole : (k : ℕ) (m : Numbers) → At (opening ∷ []) k m → (k ≡ 0) × (m ≡ opening)
    sole zero m p = (refl, sym (lean.some-injective opening m p))
    sole (suc k) m p = absurd (lean.some-ne-none m (sym p))

    no_child : (p : List ℕ) (i : ℕ) → Has opening (p ++ i ∷ []) → ⊥
    no_child [] i h = absurd (cc)
    no_child (x ∷ p) i h = absurd (cc)

  -- what a token knows but for its numbers
  abbrev Knows : Log E → ℕ → ℕ → (ℕ → ℕ) → ℕ → View E → Type 0
  Knows log ticket serving owner j v = Stands log ticket serving owner j v.seen v.stage × Begins log v.of.all v.seen × Former log v.of.all v.old × ((v.stage ≡ Idle) ⊎ Has v.of v.of.first)

  fits : (log : Log E) (ticket serving : ℕ) (owner : ℕ → ℕ) (j : ℕ) (v : View E) → Knows log ticket serving owner j v → Fits log ticket serving owner j v
  fits log ticket serving owner j v k = record { staged = k.0; begins = k.1; former = k.2; live = k.3 }

  knows : (s : St) (r : Rule s) (j : ℕ) (v : View E) → At s.views j v → Knows r.log r.ticket r.serving r.owner j v
  knows s r j v p = let f = r.each j v p in (f.staged, f.begins, f.former, f.live)

  stay_more : (K : ℕ → View E → Type 0) (vs : List (View E)) (me : ℕ) (w right : View E) → K me w → ((j : ℕ) (d : View E) → j ≢ me → At vs j d → K j d) → ((j : ℕ) → K j right)
      → (j : ℕ) (d : View E) → At (set vs me w ++ right ∷ []) j d → K j d
  stay_more K vs me w right mine others new j d p = ⊎_elim (λ q. stay K vs me w mine others j d q) (λ (t : (j ≡ length (set vs me w)) × (right ≡ d)). subst (K j) t.1 (new j)) (at_end (set vs me w) right d j p)

  -- no entry is of the new number
  none_new : (s : St) (r : Rule s) (id : ℕ) (v : View E) → At s.views id v → Has v.of v.of.first → (seen : Log E) → Begins r.log v.of.all seen → Begins r.log (next_number v.of ∷ []) seen
  none_new s r id v at has seen b = (
    b.0,
    b.1,
    part_none (next_number v.of ∷ []) b.0 (λ i e p. let q = behind seen b.0 i e p in
        let d = r.numbered.entered q.0 e (subst (λ (l : Log E). At l q.0 e) (sym b.1) q.1) in by_test e.0 d.0 (new_is_fresh r.log r.token (map numbers s.views) r.numbered id v.of (at_map numbers s.views id v at) has (r.token e.0) d.0 d.1) d.2 (same e.0 (next_number v.of)) refl),
  ) where
    by_test : (x : List ℕ) (n : Numbers) → among (next_number v.of) n.all ≡ false → Has n x → (b : Bool) → same x (next_number v.of) ≡ b → (b || false) ≡ false
    by_test x n f h true e = absurd (not_both (among (next_number v.of) n.all) (subst (λ (z : List ℕ). Has n z) (same_equal x (next_number v.of) e) h) f)
    by_test x n f h false e = refl

  pub splits_keep : (id : ℕ) (v : View E) → Has v.of v.of.first → Splits Rule id (at_stage Idle v) (split_left (at_stage Idle v)) (split_right (at_stage Idle v))
  splits_keep id v has s r at =
      let was : View E = at_stage Idle v in let left : View E = split_left was in let right : View E = split_right was in
      let ns : List Numbers = map numbers s.views in let vs : List (View E) = set s.views id left ++ right ∷ [] in
      let fit = r.each id was at in let at' : At ns id v.of = at_map numbers s.views id was at in
      let nums : map numbers vs ≡ set ns id (splitting v.of) ++ child v.of ∷ [] = map-append numbers (set s.views id left) (right ∷ []) ∙ ap (λ (l : List Numbers). l ++ child v.of ∷ []) (map-set numbers s.views id left) in
      let next : List ℕ → ℕ = token_split r.log r.token ns r.numbered id v.of at' has in
      let known = stay_more (Knows r.log r.ticket r.serving r.owner) s.views id left right (tt, fit.begins, fit.former, inr has) (λ j d _ p. knows s r j d p) (λ j. (tt, none_new s r id was at has v.seen fit.begins, no_former r.log (next_number v.of ∷ []), inl refl)) in
      viewed s r s.words s.homes vs next r.words
      (λ t lo hi. let d = r.drawn t lo hi in let other : r.owner t ≢ id = λ e. subst (λ (z : View E). HasTicket t z.stage) (one_view s.views (r.owner t) id d.0 was d.1 at e) d.2 in
      (d.0, at_longer (set s.views id left) (right ∷ []) (r.owner t) d.0 (set_else s.views id (r.owner t) left other ∙ d.1), d.2))
      (⊎_elim (λ h. inl (h.0, h.1, h.2, h.3, stay_more (λ j z. is_inside z.stage ≡ false) s.views id left right refl (λ j d _ p. h.4 j d p) (λ _. refl)))
      (λ a. let b = away_stays s.homes s.views id was left at refl a in inr (b.0, (b.1.0, b.1.1, at_longer (set s.views id left) (right ∷ []) b.1.0 b.1.1 b.1.2, b.1.3))) r.slot)
      (λ j d p. fits r.log r.ticket r.serving r.owner j d (known j d p))
      (subst (NumberRule r.log next) (sym nums) (numbered_split r.log r.token ns r.numbered id v.of at' has))

  part_nil : (es : Log E) → part [] es ≡ []
  part_nil [] = refl
  part_nil (e ∷ es) = part_nil es

  join_seen : (log a b : Log E) (ns ms : List (List ℕ)) → Begins log ns a → Begins log ms b → (t : Bool) → nat_le (length a) (length b) ≡ t → Begins log (ns ++ ms) (if t then b else a)
  join_seen log a b ns ms p q true e = let le : length a ≤ length b = grind (arith, nat_tests) in (q.0, q.1, part_both ns ms q.0 (part_later ns log a b q.0 p q.1 le) q.2)
  join_seen log a b ns ms p q false e = let le : length b ≤ length a = grind (arith, nat_tests) in (p.0, p.1, part_both ns ms p.0 p.2 (part_later ms log b a p.0 q p.1 le))

  join_former : (log a b : Log E) (ns ms : List (List ℕ)) → Begins log ns a → Begins log ms b → Former log (ns ++ ms) ((ns, a) ∷ (ms, b) ∷ [])
  join_former log a b ns ms p q zero o e = subst (λ (z : List (List ℕ) × Log E). Begins log z.0 z.1 × ((x : List ℕ) → among x z.0 ≡ true → among x (ns ++ ms) ≡ true)) (lean.some-injective (ns, a) o e) (p, λ x h. has_left x ns ms h)
  join_former log a b ns ms p q (suc zero) o e = subst (λ (z : List (List ℕ) × Log E). Begins log z.0 z.1 × ((x : List ℕ) → among x z.0 ≡ true → among x (ns ++ ms) ≡ true)) (lean.some-injective (ms, b) o e) (q, λ x h. has_right x ns ms h)
  join_former log a b ns ms p q (suc (suc i)) o e = absurd (lean.some-ne-none o (sym e))

  pub joins_keep : (id : ℕ) (v : View E) (other : ℕ) (w : View E) → Has v.of v.of.first → Joins Rule id (at_stage Idle v) other (at_stage Idle w) (join_both (at_stage Idle v) (at_stage Idle w)) nobody
  joins_keep id v other w has s r at apart there' =
      let was : View E = at_stage Idle v in let their : View E = at_stage Idle w in let both : View E = join_both was their in
      let ns : List Numbers = map numbers s.views in let vs : List (View E) = set (set s.views id both) other nobody in
      let there : At s.views other their = sym (set_else s.views id other both apart) ∙ there' in
      let fit = r.each id was at in let fit2 = r.each other their there in
      let at1 : At ns id v.of = at_map numbers s.views id was at in let at2 : At ns other w.of = at_map numbers s.views other their there in
      let nums : map numbers vs ≡ set (set ns id (joined v.of w.of)) other spent = map-set numbers (set s.views id both) other nobody ∙ ap (λ (l : List Numbers). set l other spent) (map-set numbers s.views id both) in
      let next : List ℕ → ℕ = token_join r.log r.token ns r.numbered id other v.of w.of at1 at2 apart has in
      let seen = join_seen r.log v.seen w.seen v.of.all w.of.all fit.begins fit2.begins (nat_le (length v.seen) (length w.seen)) refl in
      let K = Knows r.log r.ticket r.serving r.owner in
      let known = stay K (set s.views id both) other nobody (tt, (r.log, refl, part_nil r.log), no_former r.log [], inl refl)
      (λ j d _ p. stay K s.views id both (tt, seen, join_former r.log v.seen w.seen v.of.all w.of.all fit.begins fit2.begins, inr (has_left v.of.first v.of.all w.of.all has)) (λ j d _ p. knows s r j d p) j d p) in
      viewed s r s.words s.homes vs next r.words
      (λ t lo hi. let d = r.drawn t lo hi in
      let other1 : r.owner t ≢ id = λ e. subst (λ (z : View E). HasTicket t z.stage) (one_view s.views (r.owner t) id d.0 was d.1 at e) d.2 in
      let other2 : r.owner t ≢ other = λ e. subst (λ (z : View E). HasTicket t z.stage) (one_view s.views (r.owner t) other d.0 their d.1 there e) d.2 in
      (d.0, set_else (set s.views id both) other (r.owner t) nobody other2 ∙ (set_else s.views id (r.owner t) both other1 ∙ d.1), d.2))
      (⊎_elim (λ h. inl (home_stays r.log r.serving s.homes (set s.views id both) other nobody refl (home_stays r.log r.serving s.homes s.views id both refl h)))
      (λ a. inr (away_stays s.homes (set s.views id both) other their nobody there' refl (away_stays s.homes s.views id was both at refl a))) r.slot)
      (λ j d p. fits r.log r.ticket r.serving r.owner j d (known j d p))
      (subst (NumberRule r.log next) (sym nums) (numbered_join r.log r.token ns r.numbered id other v.of w.of at1 at2 apart has))

  pub learns_keep : (slots id : ℕ) (v : View E) → Has v.of v.of.first
      → Allows Rule slots id (at_stage Idle v, []) 1 (λ x. x) (looks stands (step slots 1 0 0 lean.none) (at_stage Idle v, []))
  learns_keep slots id v has s r _ at _ = let was : View E = at_stage Idle v in let fit = r.each id was at in let w : View E = seeing Idle r.log v in (
    w,
    keeps,
    tt,
    looked s r id v Idle Idle s.homes at (λ u h. h) tt (inr has) (⊎_elim (λ h. inl (home_stays r.log r.serving s.homes s.views id w refl h)) (λ a. inr (away_stays s.homes s.views id was w at refl a)) r.slot),
    (r.log, refl, fit.begins, λ i o p. (fit.former i o p).0, not_born s r id was at has),
  )

  inside_below : (log : Log E) (ticket serving : ℕ) (owner : ℕ → ℕ) (j : ℕ) (seen : Log E) (st : Stage) → Stands log ticket serving owner j seen st → is_inside st ≡ true → serving < ticket
  inside_below log ticket serving owner j seen Idle s i = absurd (cc)
  inside_below log ticket serving owner j seen (Drawn t) s i = absurd (cc)
  inside_below log ticket serving owner j seen (Holds t) s i = let e = s.0 in let l = s.1 in omega arith
  inside_below log ticket serving owner j seen (Entered t) s i = let e = s.0 in let l = s.1 in omega arith

  -- what a table that its last token closes shows
  abbrev pub Ends : View E → List ℕ → List (Option T) → Type 0
  Ends v ws xs = (get_or ws 0 0 ≡ get_or ws 1 0 → (x : T) × (get_elem? xs 0 ≡ lean.some (Some x)) × Leaves stands x v)
      × (get_or ws 0 0 ≢ get_or ws 1 0 → (get_or ws 1 0 < get_or ws 0 0) × ¬ IsWhole v.of)

  ends : (id : ℕ) (v : View E) (ws : List ℕ) (xs : List (Option T)) → Has v.of v.of.first → Final (Seen Rule id (at_stage Idle v)) ws xs → Ends v ws xs
  ends id v ws xs has f =
      let s : St = f.0 in let r = f.1.0 in let at = f.1.1 in let was : View E = at_stage Idle v in let ns : List Numbers = map numbers s.views in
      let same_words : ws ≡ r.ticket ∷ r.serving ∷ length r.log ∷ [] = sym f.2 ∙ r.words in
      let t0 : get_or ws 0 0 ≡ r.ticket = ap (λ (l : List ℕ). get_or l 0 0) same_words in
      let s0 : get_or ws 1 0 ≡ r.serving = ap (λ (l : List ℕ). get_or l 1 0) same_words in
      let below = r.below in let fit = r.each id was at in
      let all : IsWhole v.of → (k : ℕ) (m : Numbers) (x : List ℕ) → At ns k m → Has m x → Has v.of x = λ whole k m x p h. whole_has r.log r.token ns r.numbered id v.of (at_map numbers s.views id was at) whole (length x) x (le_refl (length x)) k m p h in (
        (λ e. ⊎_elim
            (λ (h : Home stands r.log r.serving s.homes s.views). (
              h.0,
              f.4 0 (Some h.0) (ap (λ (l : List (lean.Option (Option T))). get_elem? l 0) h.1),
              record { log = r.log; value = h.2; begins = fit.begins; own = λ whole i e p. let d = r.numbered.entered i e p in all whole (r.token e.0) d.0 e.0 d.1 d.2 },
            ))
            (λ (a : Away stands s.homes s.views). let q = (r.each a.1.0 a.1.1 a.1.2).staged in let l = inside_below r.log r.ticket r.serving r.owner a.1.0 a.1.1.seen a.1.1.stage q a.1.3 in absurd (omega arith))
            r.slot),
        (λ ne. let lt : r.serving < r.ticket = omega arith in (
          omega arith,
          λ whole. let d = r.drawn r.serving (le_refl r.serving) lt in let g = r.each (r.owner r.serving) d.0 d.1 in
              ⊎_elim (λ (idle : d.0.stage ≡ Idle). subst (λ (z : Stage). HasTicket r.serving z) idle d.2)
              (λ h. let mine = r.numbered.own id v.of d.0.of.first (at_map numbers s.views id was at) (all whole (r.owner r.serving) d.0.of d.0.of.first (at_map numbers s.views (r.owner r.serving) d.0 d.1) h) in
              let here : r.owner r.serving ≡ id = r.numbered.own (r.owner r.serving) d.0.of d.0.of.first (at_map numbers s.views (r.owner r.serving) d.0 d.1) h ∙ sym mine in
              subst (λ (z : View E). HasTicket r.serving z.stage) (one_view s.views (r.owner r.serving) id d.0 was d.1 at here) d.2)
              g.live,
        )),
      )

  -- the same of a token that is known to be idle
  pub idle_ends : (id : ℕ) (v : View E) (ws : List ℕ) (xs : List (Option T)) → v ≡ at_stage Idle v → Has v.of v.of.first → Final (Seen Rule id v) ws xs → Ends v ws xs
  idle_ends id v ws xs is has f = ends id v ws xs has (subst (λ (z : View E). Final (Seen Rule id z) ws xs) is f)

  -- two tokens that hold the value are one
  pub one_holds : (s : St) → Rule s → (j k : ℕ) (v w : View E) → At s.views j v → At s.views k w → is_inside v.stage ≡ true → is_inside w.stage ≡ true → j ≡ k
  one_holds s r j k v w p q a b = inside_is_served r.log r.ticket r.serving r.owner j v.seen v.stage (r.each j v p).staged a ∙ sym (inside_is_served r.log r.ticket r.serving r.owner k w.seen w.stage (r.each k w q).staged b)

  -- two tokens with one number are one
  pub one_has : (s : St) → Rule s → (j k : ℕ) (v w : View E) (x : List ℕ) → At s.views j v → At s.views k w → Has v.of x → Has w.of x → j ≡ k
  one_has s r j k v w x p q a b = r.numbered.own j v.of x (at_map numbers s.views j v p) a ∙ sym (r.numbered.own k w.of x (at_map numbers s.views k w q) b)

  -- beside a whole token there are spent ones alone
  pub whole_alone : (s : St) → Rule s → (j k : ℕ) (v w : View E) → At s.views j v → At s.views k w → IsWhole v.of → IsSpent w.of ⊎ (j ≡ k)
  whole_alone s r j k v w p q whole = ⊎_elim inl
      (λ (h : Has w.of w.of.first). inr (one_has s r j k v w w.of.first p q
      (whole_has r.log r.token (map numbers s.views) r.numbered j v.of (at_map numbers s.views j v p) whole (length w.of.first) w.of.first (le_refl (length w.of.first)) k w.of (at_map numbers s.views k w q) h) h))
      (r.numbered.rooted k w.of (at_map numbers s.views k w q))
