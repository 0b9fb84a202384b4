-- What is found in the words is what they mean.
use Rattle.std.proofs.Common.{◌≡◌, ℕ, ◌≤◌, Bool, true, false, List, [], ◌∷◌, codes, inl, inr, refl, sym, ap, ◌∙◌, subst, arith}
use Rattle.std.specs.Prelude.{bytes_eq, cond, Option, Some, None, IfSome, option_map}
use Rattle.std.proofs.lemmas.Slice.Eq.{bytes_eq-Decides}
use Rattle.mal_base.specs.Limits.{limits}
use Rattle.clap.proofs.OnLiterals.{clap_on_literals}
use Rattle.clap.proofs.WalkLemmas.{first_value-rows}
use Rattle.clap.specs.Words.{App, HasKind, IsAmong, Kinds, Row, Text, fault_of, first_of, is_simple, is_simple_and_free, kind_of, subcommand_of}
use Rattle.clap.specs.declared.error.Error.{Error}
use Rattle.clap.specs.declared.error.kind.ErrorKind.TheVariants as kind
use Rattle.mal_answer.specs.CommandLine.{mal_app, refusals, subcommand}
use Rattle.mal_answer.specs.Forms.{Form, check_form, cluster_form, cluster_of, core_form, gen_form, generate_of, json_form, max_form, number_by, number_in, replay_form, run_form, serve_form, slices_in}
use Rattle.mal_answer.specs.Found.{IsMeaning}
use Rattle.mal_answer.specs.WordLaws.{AskedIsAsks, OneMeaning}
use Rattle.mal_answer.specs.Requests.{Asks, IsAskedBy, IsNumber, IsRequest, Means, MeansNothing, asked, asked_by, asked_in}
use Rattle.mal_answer.specs.declared.words.request.Request.{Request}
use Rattle.mal_answer.specs.declared.words.request.Request.TheVariants.{Run, Check, Replay, Generate, RunGenerated, Json, Cluster, Max, Core, Serve}
use Rattle.mal_answer.proofs.Decimals.{is-number, is-value, number-is, value-is}

pub ruleset value_lemmas = (first_value-rows)

pub mal_is_simple : is_simple mal_app ≡ true
unfolding clap_on_literals
mal_is_simple = refl

pub mal_is_free : is_simple_and_free mal_app ≡ true
unfolding clap_on_literals
mal_is_free = refl

-- what is asked for by the first form is so by its name, else by a later one
by-form : (f : Form) (fs : List Form) (name : Text) (rows : List Row) (r : Request) (P : Type 0) → asked_by (f ∷ fs) name rows ≡ Some r → (name ≡ f.name → f.asks rows ≡ Some r → P) → (asked_by fs name rows ≡ Some r → P) → P
by-form f fs name rows r P e here later = by-test (bytes_eq name f.name) refl
  where
    by-test : (b : Bool) → bytes_eq name f.name ≡ b → P
    by-test true is = here ((bytes_eq-Decides name f.name).0 is) (subst (λ (t : Bool). cond t (f.asks rows) (asked_by fs name rows) ≡ Some r) is e)
    by-test false is = later (subst (λ (t : Bool). cond t (f.asks rows) (asked_by fs name rows) ≡ Some r) is e)

mapped : (g : ℕ → Request) (o : Option ℕ) (r : Request) → option_map g o ≡ Some r → (n : ℕ) × (o ≡ Some n) × (g n ≡ r)
mapped g None r e = cc
mapped g (Some n) r e = (n, refl, inner e)
  where
    inner : ◌≡◌ {A = Option Request} (Some (g n)) (Some r) → g n ≡ r
    inner h = cc

run-asks : (rows : List Row) (r : Request) → run_form.asks rows ≡ Some r → Asks (codes "run") rows r
run-asks rows r e =
    let word : Option Text = first_of (codes "workers") rows in
    let m = mapped (λ w. Run w) (number_in 1 64 word) r e in
    subst (λ (q : Request). Asks (codes "run") rows q) m.2 (refl, is-value 1 64 m.0 word m.1)

serve-asks : (rows : List Row) (r : Request) → serve_form.asks rows ≡ Some r → Asks (codes "serve") rows r
serve-asks rows r e =
    let word : Option Text = first_of (codes "workers") rows in
    let m = mapped (λ w. Serve w) (number_in 1 64 word) r e in
    subst (λ (q : Request). Asks (codes "serve") rows q) m.2 (refl, is-value 1 64 m.0 word m.1)

max-asks : (rows : List Row) (r : Request) → max_form.asks rows ≡ Some r → Asks (codes "max") rows r
max-asks rows r e =
    let m = mapped (λ n. Max n) (slices_in rows) r e in
    subst (λ (q : Request). Asks (codes "max") rows q) m.2 (refl, is-value 1 limits.slices m.0 (first_of (codes "slices") rows) m.1)

core-asks : (rows : List Row) (r : Request) → core_form.asks rows ≡ Some r → Asks (codes "core") rows r
core-asks rows r e =
    let m = mapped (λ n. Core n) (slices_in rows) r e in
    subst (λ (q : Request). Asks (codes "core") rows q) m.2 (refl, is-value 1 limits.slices m.0 (first_of (codes "slices") rows) m.1)

gen-asks : (rows : List Row) (r : Request) (seed jobs : Option ℕ) (word : Option Text) → number_in 0 2147483647 (first_of (codes "seed") rows) ≡ seed → number_in 1 256 (first_of (codes "jobs") rows) ≡ jobs → first_of (codes "workers") rows ≡ word → generate_of seed jobs word ≡ Some r → Asks (codes "gen") rows r
gen-asks rows r None jobs word s j w e = cc
gen-asks rows r (Some seed) None word s j w e = cc
gen-asks rows r (Some seed) (Some jobs) None s j w e =
    subst (λ (q : Request). Asks (codes "gen") rows q) (inner e) (refl, w, is-value 0 2147483647 seed _ s, is-value 1 256 jobs _ j)
  where
    inner : ◌≡◌ {A = Option Request} (Some (Generate seed jobs)) (Some r) → Generate seed jobs ≡ r
    inner h = cc
gen-asks rows r (Some seed) (Some jobs) (Some word) s j w e =
    let m = mapped (λ n. RunGenerated seed jobs n) (number_by 1 64 word) r e in
    subst (λ (q : Request). Asks (codes "gen") rows q) m.2 (refl, subst (λ (o : Option Text). IsNumber 1 64 m.0 o) (sym w) (is-number 1 64 m.0 word m.1), is-value 0 2147483647 seed _ s, is-value 1 256 jobs _ j)

cluster-asks : (rows : List Row) (r : Request) (halls workers every : Option ℕ) → number_in 2 8 (first_of (codes "halls") rows) ≡ halls → number_in 1 64 (first_of (codes "workers") rows) ≡ workers → number_in 1 1000 (first_of (codes "every") rows) ≡ every → cluster_of halls workers every ≡ Some r → Asks (codes "cluster") rows r
cluster-asks rows r None workers every h w k e = cc
cluster-asks rows r (Some halls) None every h w k e = cc
cluster-asks rows r (Some halls) (Some workers) None h w k e = cc
cluster-asks rows r (Some halls) (Some workers) (Some every) h w k e =
    subst (λ (q : Request). Asks (codes "cluster") rows q) (inner e) (refl, is-value 2 8 halls _ h, is-value 1 64 workers _ w, is-value 1 1000 every _ k)
  where
    inner : ◌≡◌ {A = Option Request} (Some (Cluster halls workers every)) (Some r) → Cluster halls workers every ≡ r
    inner h = cc

some-is : (q r : Request) → ◌≡◌ {A = Option Request} (Some q) (Some r) → q ≡ r
some-is q r e = cc

named : (name form : Text) (rows : List Row) (r : Request) → name ≡ form → Asks form rows r → Asks name rows r
named name form rows r same asks = subst (λ (t : Text). Asks t rows r) (sym same) asks

asked-asks : (name : Text) (rows : List Row) (r : Request) → asked name rows ≡ Some r → Asks name rows r
asked-asks name rows r e =
    by-form run_form (check_form ∷ replay_form ∷ gen_form ∷ json_form ∷ cluster_form ∷ max_form ∷ core_form ∷ serve_form ∷ []) name rows r (Asks name rows r) e (λ n a. named name (codes "run") rows r n (run-asks rows r a)) (λ e.
    by-form check_form (replay_form ∷ gen_form ∷ json_form ∷ cluster_form ∷ max_form ∷ core_form ∷ serve_form ∷ []) name rows r (Asks name rows r) e (λ n a. subst (λ (q : Request). Asks name rows q) (some-is Check r a) n) (λ e.
    by-form replay_form (gen_form ∷ json_form ∷ cluster_form ∷ max_form ∷ core_form ∷ serve_form ∷ []) name rows r (Asks name rows r) e (λ n a. subst (λ (q : Request). Asks name rows q) (some-is Replay r a) n) (λ e.
    by-form gen_form (json_form ∷ cluster_form ∷ max_form ∷ core_form ∷ serve_form ∷ []) name rows r (Asks name rows r) e (λ n a. named name (codes "gen") rows r n (gen-asks rows r _ _ _ refl refl refl a)) (λ e.
    by-form json_form (cluster_form ∷ max_form ∷ core_form ∷ serve_form ∷ []) name rows r (Asks name rows r) e (λ n a. subst (λ (q : Request). Asks name rows q) (some-is Json r a) n) (λ e.
    by-form cluster_form (max_form ∷ core_form ∷ serve_form ∷ []) name rows r (Asks name rows r) e (λ n a. named name (codes "cluster") rows r n (cluster-asks rows r _ _ _ refl refl refl a)) (λ e.
    by-form max_form (core_form ∷ serve_form ∷ []) name rows r (Asks name rows r) e (λ n a. named name (codes "max") rows r n (max-asks rows r a)) (λ e.
    by-form core_form (serve_form ∷ []) name rows r (Asks name rows r) e (λ n a. named name (codes "core") rows r n (core-asks rows r a)) (λ e.
    by-form serve_form [] name rows r (Asks name rows r) e (λ n a. named name (codes "serve") rows r n (serve-asks rows r a)) (λ e. cc)))))))))

-- what a subcommand asks for is its form's
as-named : (name form : Text) (rows : List Row) (r : Request) → name ≡ form → asked form rows ≡ Some r → asked name rows ≡ Some r
as-named name form rows r same is = subst (λ (t : Text). asked t rows ≡ Some r) (sym same) is

generates : (rows : List Row) (r : Request) (seed jobs : Option ℕ) (word : Option Text) → number_in 0 2147483647 (first_of (codes "seed") rows) ≡ seed → number_in 1 256 (first_of (codes "jobs") rows) ≡ jobs → first_of (codes "workers") rows ≡ word → generate_of seed jobs word ≡ Some r → gen_form.asks rows ≡ Some r
generates rows r seed jobs word s j w e = rw (s, j, w) e

pub run-words : (w : ℕ) → IsAskedBy run_form (Run w)
run-words w name rows a = (a.0, ap (λ (o : Option ℕ). option_map (λ n. Run n) o) (value-is 1 64 w (first_of (codes "workers") rows) (omega arith) a.1))

pub check-words : IsAskedBy check_form Check
check-words name rows a = (a, refl)

pub replay-words : IsAskedBy replay_form Replay
replay-words name rows a = (a, refl)

pub gen-words : (s j : ℕ) → IsAskedBy gen_form (Generate s j)
gen-words s j name rows a =
    (a.0, generates rows (Generate s j) (Some s) (Some j) None (value-is 0 2147483647 s _ (omega arith) a.2) (value-is 1 256 j _ (omega arith) a.3) a.1 refl)

pub gen_run-words : (s j w : ℕ) → IsAskedBy gen_form (RunGenerated s j w)
gen_run-words s j w name rows a = (a.0, by-workers (first_of (codes "workers") rows) refl a.1)
  where
    by-workers : (word : Option Text) → first_of (codes "workers") rows ≡ word → IsNumber 1 64 w word → gen_form.asks rows ≡ Some (RunGenerated s j w)
    by-workers None is h = absurd h
    by-workers (Some word) is h = generates rows (RunGenerated s j w) (Some s) (Some j) (Some word) (value-is 0 2147483647 s _ (omega arith) a.2) (value-is 1 256 j _ (omega arith) a.3) is (ap (λ (o : Option ℕ). option_map (λ n. RunGenerated s j n) o) (number-is 1 64 w word (omega arith) h))

pub json-words : IsAskedBy json_form Json
json-words name rows a = (a, refl)

clusters : (rows : List Row) (r : Request) (halls workers every : Option ℕ) → number_in 2 8 (first_of (codes "halls") rows) ≡ halls → number_in 1 64 (first_of (codes "workers") rows) ≡ workers → number_in 1 1000 (first_of (codes "every") rows) ≡ every → cluster_of halls workers every ≡ Some r → cluster_form.asks rows ≡ Some r
clusters rows r halls workers every h w k e = rw (h, w, k) e

pub cluster-words : (h w k : ℕ) → IsAskedBy cluster_form (Cluster h w k)
cluster-words h w k name rows a =
    (a.0, clusters rows (Cluster h w k) (Some h) (Some w) (Some k) (value-is 2 8 h _ (omega arith) a.1) (value-is 1 64 w _ (omega arith) a.2) (value-is 1 1000 k _ (omega arith) a.3) refl)

pub max-words : (n : ℕ) → IsAskedBy max_form (Max n)
max-words n name rows a = (a.0, ap (λ (o : Option ℕ). option_map (λ m. Max m) o) (value-is 1 limits.slices n (first_of (codes "slices") rows) (omega arith) a.1))

pub core-words : (n : ℕ) → IsAskedBy core_form (Core n)
core-words n name rows a = (a.0, ap (λ (o : Option ℕ). option_map (λ m. Core m) o) (value-is 1 limits.slices n (first_of (codes "slices") rows) (omega arith) a.1))

pub serve-words : (w : ℕ) → IsAskedBy serve_form (Serve w)
serve-words w name rows a = (a.0, ap (λ (o : Option ℕ). option_map (λ n. Serve n) o) (value-is 1 64 w (first_of (codes "workers") rows) (omega arith) a.1))

asks-asked : (name : Text) (rows : List Row) (r : Request) → Asks name rows r → asked name rows ≡ Some r
asks-asked name rows (Run w) a = let own = run-words w name rows a in as-named name (codes "run") rows (Run w) own.0 own.1
asks-asked name rows Check a = as-named name (codes "check") rows Check a refl
asks-asked name rows Replay a = as-named name (codes "replay") rows Replay a refl
asks-asked name rows (Generate s j) a = let own = gen-words s j name rows a in as-named name (codes "gen") rows (Generate s j) own.0 own.1
asks-asked name rows (RunGenerated s j w) a = let own = gen_run-words s j w name rows a in as-named name (codes "gen") rows (RunGenerated s j w) own.0 own.1
asks-asked name rows Json a = as-named name (codes "json") rows Json a refl
asks-asked name rows (Cluster h w k) a = let own = cluster-words h w k name rows a in as-named name (codes "cluster") rows (Cluster h w k) own.0 own.1
asks-asked name rows (Max n) a = let own = max-words n name rows a in as-named name (codes "max") rows (Max n) own.0 own.1
asks-asked name rows (Core n) a = let own = core-words n name rows a in as-named name (codes "core") rows (Core n) own.0 own.1
asks-asked name rows (Serve w) a = let own = serve-words w name rows a in as-named name (codes "serve") rows (Serve w) own.0 own.1

pub asked-is_asks : AskedIsAsks
asked-is_asks name rows r = (asked-asks name rows r, asks-asked name rows r)

-- so it is for what words mean
meant : (words : List Text) (r : Request) → Means words r → asked_in (subcommand words) ≡ Some r
meant words r m = ap asked_in m.named ∙ asks-asked m.name m.rows r m.asks

none-found : (r : Request) → ◌≡◌ {A = Option Request} None (Some r) → ⊥
none-found r e = cc

pub found-meaning : (words : List Text) (o : Option Request) (found : Option (Text × List Row)) → o ≡ asked_in found → found ≡ subcommand_of mal_app words → fault_of mal_app words ≡ [] → IsMeaning o words
unfolding refusals subcommand
found-meaning words None found is named taken = λ r m. none-found r (is ∙ (ap asked_in named ∙ meant words r m))
found-meaning words (Some r) None is named taken = absurd (none-found r (sym is))
found-meaning words (Some r) (Some f) is named taken = record { name = f.0; rows = f.1; taken = taken; named = sym named; asks = asked-asks f.0 f.1 r (sym is) }

pub refused-meaning : (words : List Text) (e : Error) → HasKind (fault_of mal_app words) e → (kind_of e ≡ kind.OutOfMemory → ⊥) → MeansNothing words
unfolding refusals
refused-meaning words e (inl out) some = λ r m. some out
refused-meaning words e (inr among) some = λ r m. subst (λ (kinds : Kinds). IsAmong (kind_of e) kinds) m.taken among

-- the same of a command that is the program's command line
pub found-of : (a : App) (words : List Text) (o : Option Request) (found : Option (Text × List Row)) → a ≡ mal_app → o ≡ asked_in found → (is_simple a ≡ true → found ≡ subcommand_of a words) → (is_simple_and_free a ≡ true → fault_of a words ≡ []) → IsMeaning o words
found-of a words o found is asked named taken =
    found-meaning words o found asked
    (named (ap is_simple is ∙ mal_is_simple) ∙ ap (λ (b : App). subcommand_of b words) is)
    (sym (ap (λ (b : App). fault_of b words) is) ∙ taken (ap is_simple_and_free is ∙ mal_is_free))

pub refused-of : (a : App) (words : List Text) (e : Error) → a ≡ mal_app → (is_simple_and_free a ≡ true → HasKind (fault_of a words) e) → (kind_of e ≡ kind.OutOfMemory → ⊥) → MeansNothing words
refused-of a words e is refused some =
    refused-meaning words e (subst (λ (b : App). HasKind (fault_of b words) e) is (refused (ap is_simple_and_free is ∙ mal_is_free))) some

-- the numbers of what is asked for are in their ranges
in-range : (least most n : ℕ) (o : Option Text) → IsNumber least most n o → (least ≤ n) × (n ≤ most)
in-range least most n None h = absurd h
in-range least most n (Some word) h = (h.0, h.1)

asks-request : (name : Text) (rows : List Row) (r : Request) → Asks name rows r → IsRequest r
asks-request name rows (Run workers) a = in-range 1 64 workers _ a.1
asks-request name rows Check a = tt
asks-request name rows Replay a = tt
asks-request name rows (Generate seed jobs) a =
    let s = in-range 0 2147483647 seed _ a.2 in let high = s.1 in let j = in-range 1 256 jobs _ a.3 in (omega arith, j.0, j.1)
asks-request name rows (RunGenerated seed jobs workers) a =
    let w = in-range 1 64 workers _ a.1 in let s = in-range 0 2147483647 seed _ a.2 in let high = s.1 in let j = in-range 1 256 jobs _ a.3 in (omega arith, j.0, j.1, w.0, w.1)
asks-request name rows Json a = tt
asks-request name rows (Cluster halls workers every) a =
    let h = in-range 2 8 halls _ a.1 in let w = in-range 1 64 workers _ a.2 in let k = in-range 1 1000 every _ a.3 in (h.0, h.1, w.0, w.1, k.0, k.1)
asks-request name rows (Max slices) a = in-range 1 limits.slices slices _ a.1
asks-request name rows (Core slices) a = in-range 1 limits.slices slices _ a.1
asks-request name rows (Serve workers) a = in-range 1 64 workers _ a.1

pub means-request : (words : List Text) (o : Option Request) → IsMeaning o words → IfSome o (λ r. IsRequest r)
means-request words None m = tt
means-request words (Some r) m = asks-request m.name m.rows r m.asks

-- words have one meaning
pub one_meaning : OneMeaning
one_meaning words r q m n = some-is r q (sym (meant words r m) ∙ meant words q n)
