use Rattle.std.proofs.Common.{ap, ap₂}
use Rattle.spec_script.specs.Script.{tenant_words, job_words}
use Rattle.mal_script.proofs.Texts.{job_written}
use Rattle.mal_script.proofs.writing.put_job.Goals as goal

pub returns : goal.returns
returns c = job_written c.args.out.now.items c.put_tenant.new.out.items c.put_terms.new.out.items c.put_steps.new.out.items c.put_line.new.out.items c.args.job.now (tenant_words c.tenant.result) (job_words c.name.result c.ask.result) c.steps.result.now (ap tenant_words c.tenant.ensures) (ap₂ job_words c.name.ensures c.ask.ensures) c.steps.ensures c.in_ok-put_tenant.ensures c.in_ok-put_terms.ensures c.in_ok-put_steps.ensures c.in_ok-put_line.ensures.written
