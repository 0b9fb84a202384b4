use Rattle.std.proofs.Common.{ap, sym, ◌∙◌, List, Bool, ℕ}
use Rattle.spec_report.specs.Replies.{Model, Proof}
use Rattle.mal_report.specs.declared.told.Told.{Told}
use Rattle.mal_report.specs.Told.{body_of}
use Rattle.mal_report.proofs.Bodies.{model_told, proof_told}
use Rattle.mal_report.proofs.replies.put_told.Goals as goal

pub returns-in_ok-put_model-in-Model : goal.returns-in_ok-put_model-in-Model
returns-in_ok-put_model-in-Model c = model_told c.args.out.now.items c.put_line.new.out.items c.put_model.new.out.items (body_of c.args.told.now) c.as_slice.result.now (ap Model c.as_slice.ensures.value ∙ ap (λ (t : Told). body_of t) (sym c.in-Model.is)) c.in_ok-put_line-in-Model.ensures.written c.in_ok-put_model-in-Model.ensures

pub returns-in_ok-put_proof-in-Proof : goal.returns-in_ok-put_proof-in-Proof
returns-in_ok-put_proof-in-Proof c = proof_told c.args.out.now.items c.put_line-in-Proof.new.out.items c.put_failed.new.out.items c.put_proof.new.out.items (body_of c.args.told.now) c.as_slice-in-Proof.result.now c.in-Proof.lines.lines (ap (λ (ls : List ℕ). Proof ls c.in-Proof.lines.lines) c.as_slice-in-Proof.ensures.value ∙ ap (λ (t : Told). body_of t) (sym c.in-Proof.is)) c.in_ok-put_line-in-Proof.ensures.written c.in_ok-put_failed-in-Proof.ensures c.in_ok-put_proof-in-Proof.ensures
