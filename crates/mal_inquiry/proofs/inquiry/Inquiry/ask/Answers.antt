use Rattle.std.proofs.Common.{inl, inr}
use Rattle.mal_inquiry.proofs.InquiryLemmas.{asked-on, room-behind, some-last}
use Rattle.mal_inquiry.proofs.inquiry.Inquiry.ask.Goals as goal

pub post-requires : goal.post-requires
post-requires c = room-behind c.args.self.now c.requires.may.0 c.requires.may.1 c.args.revision c.requires.may.2 c.requires.may.3

pub found-requires-clause-some : goal.found-requires-clause-some
found-requires-clause-some c = some-last c.args.self.now c.post.new.self c.drive.new.self c.args.revision c.requires.may.0 c.requires.may.1 (record { posted_key = c.post.ensures.key; key = c.drive.ensures.key; posted = c.in_ok-post.ensures.posted; turns = c.drive.ensures.turns }) c.requires.may.2

pub returns-clause-asked : goal.returns-clause-asked
returns-clause-asked c = asked-on c.found.result c.args.self.now c.post.new.self c.drive.new.self c.args.revision (record { posted_key = c.post.ensures.key; key = c.drive.ensures.key; posted = c.in_ok-post.ensures.posted; turns = c.drive.ensures.turns }) c.in_ok-drive.ensures.answered c.found.ensures

pub returns-in_err-post-clause-begun : goal.returns-in_err-post-clause-begun
returns-in_err-post-clause-begun c = inl c.in_err-post.ensures.kept

pub returns-in_err-drive-clause-begun : goal.returns-in_err-drive-clause-begun
returns-in_err-drive-clause-begun c = inr (c.post.new.self, c.in_ok-post.ensures.posted, c.drive.ensures.turns)

pub returns-clause-begun : goal.returns-clause-begun
returns-clause-begun c = inr (c.post.new.self, c.in_ok-post.ensures.posted, c.drive.ensures.turns)
