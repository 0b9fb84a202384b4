-- Replies are told by their text.
use Rattle.std.proofs.Common.{◌≡◌, ℕ, ◌<◌, ◌^◌, List, [], ◌∷◌, ◌++◌, flat_map, codes, refl, sym, ap, ap₂, ◌∙◌, arith, append-nil}
use Rattle.std.specs.List.{AllByRecursion}
use Rattle.std.proofs.lemmas.List.Concat.{flat_map-append}
use Rattle.mal_base.specs.declared.profile.Profile.{Profile}
use Rattle.spec_text.specs.Asks.{profile_words}
use Rattle.spec_text.specs.Lines.{AreRows, line_of, text_of}
use Rattle.spec_text.specs.Numbers.{decimal_word}
use Rattle.spec_text.proofs.Again.{texts_differ}
use Rattle.spec_text.proofs.Clean.{decimals_are_clean, decimals_differ}
use Rattle.spec_text.proofs.Names.{profile-clean}
use Rattle.spec_report.specs.Replies.{ReplyBody, head_words, told_rows, reply_text}
use Rattle.spec_promises.specs.Tells.{Reply, text_of_reply, text_of_replies, IsReply, ReplyIsTold, RepliesAreTold}
use Rattle.spec_promises.proofs.Lines.{NoLine, first_byte, told-same, told-are_rows, tested}
use Rattle.spec_promises.proofs.Words.{head-same, tail-same, profiles-same}

-- the lines of a reply, and of replies
abbrev head_row : Reply → List (List ℕ)
head_row r = codes "r" ∷ r.tenant ∷ r.job ∷ decimal_word r.number ∷ profile_words r.profile

abbrev reply_rows : Reply → List (List (List ℕ))
reply_rows r = head_row r ∷ told_rows r.told

abbrev replies_rows : List Reply → List (List (List ℕ))
replies_rows rs = flat_map reply_rows rs

text-is : (rs : List Reply) → text_of_replies rs ≡ text_of (replies_rows rs)
unfolding head_words reply_text
text-is [] = refl
text-is (r ∷ rs) = ap (λ (more : List ℕ). text_of (reply_rows r) ++ more) (text-is rs) ∙ sym (flat_map-append line_of (reply_rows r) (replies_rows rs))

-- no reply begins as a line of a proof does
no-line : (rs : List Reply) → NoLine (replies_rows rs)
unfolding first_byte
no-line [] q = omega (arith, q)
no-line (r ∷ rs) q = omega (arith, q)

-- the first line of a reply tells whose it is
reply-of : (a b : Reply) → a.number < 2 ^ 64 → b.number < 2 ^ 64 → head_row a ≡ head_row b → a.told ≡ b.told → a ≡ b
reply-of a b h k e told =
    let tenant : a.tenant ≡ b.tenant = cc in
    let job : a.job ≡ b.job = cc in
    let word : decimal_word a.number ≡ decimal_word b.number = cc in
    let words : profile_words a.profile ≡ profile_words b.profile = cc in
    made tenant job (decimals_differ a.number b.number h k word) (profiles-same a.profile b.profile words)
  where
    reply : List ℕ → List ℕ → ℕ → Profile → ReplyBody → Reply
    reply tenant job number profile told = record { tenant = tenant; job = job; number = number; profile = profile; told = told }

    made : a.tenant ≡ b.tenant → a.job ≡ b.job → a.number ≡ b.number → a.profile ≡ b.profile → a ≡ b
    made x y z w =
        ap₂ (λ (t j : List ℕ). reply t j a.number a.profile a.told) x y
        ∙ (ap₂ (λ (n : ℕ) (p : Profile). reply b.tenant b.job n p a.told) z w ∙ ap (λ (t : ReplyBody). reply b.tenant b.job b.number b.profile t) told)

-- replies are told by their lines
rows-same : (rs ss : List Reply) → AllByRecursion IsReply rs → AllByRecursion IsReply ss → replies_rows rs ≡ replies_rows ss → rs ≡ ss
rows-same [] [] h k e = refl
rows-same [] (s ∷ ss) h k e = absurd (cc)
rows-same (r ∷ rs) [] h k e = absurd (cc)
rows-same (r ∷ rs) (s ∷ ss) h k e =
    let head : head_row r ≡ head_row s = head-same (head_row r) (head_row s) (told_rows r.told ++ replies_rows rs) (told_rows s.told ++ replies_rows ss) e in
    let parts = told-same r.told s.told (replies_rows rs) (replies_rows ss) h.0.told k.0.told (no-line rs) (no-line ss) (tail-same (head_row r) (head_row s) (told_rows r.told ++ replies_rows rs) (told_rows s.told ++ replies_rows ss) e) in
    ap₂ (λ (x : Reply) (xs : List Reply). x ∷ xs) (reply-of r s h.0.number k.0.number head parts.0) (rows-same rs ss h.1 k.1 parts.1)

-- and can be written
pub rows-both : (xs ys : List (List (List ℕ))) → AreRows xs → AreRows ys → AreRows (xs ++ ys)
rows-both [] ys h k = k
rows-both (x ∷ xs) ys h k = (h.0, rows-both xs ys h.1 k)

replies-are_rows : (rs : List Reply) → AllByRecursion IsReply rs → AreRows (replies_rows rs)
replies-are_rows [] h = tt
replies-are_rows (r ∷ rs) h = ((omega arith, (tested (codes "r") refl, (h.0.tenant, (h.0.job, (decimals_are_clean r.number, profile-clean r.profile))))), rows-both (told_rows r.told) (replies_rows rs) (told-are_rows r.told) (replies-are_rows rs h.1))

pub replies_are_told : RepliesAreTold
replies_are_told rs ss h k e = rows-same rs ss h k (texts_differ (replies_rows rs) (replies_rows ss) (replies-are_rows rs h) (replies-are_rows ss k) (sym (text-is rs) ∙ (e ∙ text-is ss)))

pub reply_is_told : ReplyIsTold
reply_is_told a b h k e =
    let same : a ∷ [] ≡ b ∷ [] = replies_are_told (a ∷ []) (b ∷ []) (h, tt) (k, tt) (append-nil (text_of_reply a) ∙ (e ∙ sym (append-nil (text_of_reply b)))) in
    head-same a b [] [] same
