-- The text of the program that a trial runs: the declarations of the known functions, and two threads that sum the numbers of the input.
use Rattle.std.specs.Prelude.{ℕ, List, [], ◌∷◌, ◌++◌, codes, flat_map}

abbrev pub known_lines : List (List ℕ)
known_lines =
    codes "declare i64 @pg_in(i64)" ∷
    codes "declare i64 @pg_in_len()" ∷
    codes "declare void @pg_out(i64)" ∷
    codes "declare i32 @putchar(i32)" ∷
    codes "declare ptr @malloc(i64)" ∷
    codes "declare void @free(ptr)" ∷
    codes "declare i32 @pthread_create(ptr, ptr, ptr, ptr)" ∷
    codes "declare i32 @pthread_join(i64, ptr)" ∷
    codes "declare void @pthread_exit(ptr)" ∷
    codes "declare i32 @pthread_mutex_init(ptr, ptr)" ∷
    codes "declare i32 @pthread_mutex_lock(ptr)" ∷
    codes "declare i32 @pthread_mutex_trylock(ptr)" ∷
    codes "declare i32 @pthread_mutex_unlock(ptr)" ∷
    codes "declare i32 @pthread_mutex_destroy(ptr)" ∷
    codes "declare i32 @pthread_cond_init(ptr, ptr)" ∷
    codes "declare i32 @pthread_cond_wait(ptr, ptr)" ∷
    codes "declare i32 @pthread_cond_signal(ptr)" ∷
    codes "declare i32 @pthread_cond_broadcast(ptr)" ∷
    codes "declare i32 @pthread_cond_destroy(ptr)" ∷
    codes "declare i32 @pthread_barrier_init(ptr, ptr, i32)" ∷
    codes "declare i32 @pthread_barrier_wait(ptr)" ∷
    codes "declare i32 @pthread_barrier_destroy(ptr)" ∷
    []

-- each thread sums the numbers, and adds its sum to the total while it holds the mutex; main prints the total
abbrev pub program_lines : List (List ℕ)
program_lines =
    codes "@total = global i64 0" ∷
    codes "@m = global [5 x i64] zeroinitializer" ∷
    codes "@t = global [2 x i64] zeroinitializer" ∷
    codes "define ptr @work(ptr %x) {" ∷
    codes "entry:" ∷
    codes "  %s = alloca i64" ∷
    codes "  %i = alloca i64" ∷
    codes "  store i64 0, ptr %s" ∷
    codes "  store i64 0, ptr %i" ∷
    codes "  br label %cond" ∷
    codes "cond:" ∷
    codes "  %a = load i64, ptr %i" ∷
    codes "  %n = call i64 @pg_in_len()" ∷
    codes "  %c = icmp slt i64 %a, %n" ∷
    codes "  br i1 %c, label %body, label %done" ∷
    codes "body:" ∷
    codes "  %v = call i64 @pg_in(i64 %a)" ∷
    codes "  %u = load i64, ptr %s" ∷
    codes "  %w = add i64 %u, %v" ∷
    codes "  store i64 %w, ptr %s" ∷
    codes "  %b = add i64 %a, 1" ∷
    codes "  store i64 %b, ptr %i" ∷
    codes "  br label %cond" ∷
    codes "done:" ∷
    codes "  %l = call i32 @pthread_mutex_lock(ptr @m)" ∷
    codes "  %g = load i64, ptr @total" ∷
    codes "  %r = load i64, ptr %s" ∷
    codes "  %h = add i64 %g, %r" ∷
    codes "  store i64 %h, ptr @total" ∷
    codes "  %k = call i32 @pthread_mutex_unlock(ptr @m)" ∷
    codes "  ret ptr null" ∷
    codes "}" ∷
    codes "define i32 @main() {" ∷
    codes "entry:" ∷
    codes "  %p = getelementptr [2 x i64], ptr @t, i64 0, i64 1" ∷
    codes "  %1 = call i32 @pthread_create(ptr @t, ptr null, ptr @work, ptr null)" ∷
    codes "  %2 = call i32 @pthread_create(ptr %p, ptr null, ptr @work, ptr null)" ∷
    codes "  %a = load i64, ptr @t" ∷
    codes "  %b = load i64, ptr %p" ∷
    codes "  %3 = call i32 @pthread_join(i64 %a, ptr null)" ∷
    codes "  %4 = call i32 @pthread_join(i64 %b, ptr null)" ∷
    codes "  %s = load i64, ptr @total" ∷
    codes "  call void @pg_out(i64 %s)" ∷
    codes "  ret i32 0" ∷
    codes "}" ∷
    []

-- the text of these lines
abbrev pub text_of : List (List ℕ) → List ℕ
text_of lines = flat_map (λ line. line ++ codes "\n") lines

abbrev pub trial_program : List ℕ
trial_program = text_of (known_lines ++ program_lines)
